use Rattle.std.proofs.Common.{◌≡◌, ◌+◌, ◌-◌, ap, ◌∙◌, arith}
use Rattle.batch_core.specs.Steps.{State}
use Rattle.serving.specs.Lives.{state_of}
use Rattle.bench_command.specs.Benches.{batches_ran}
use Rattle.bench_command.proofs.Runs.{batch_leads, batches_none, leads_end, leads_same}
use Rattle.bench_command.proofs.courses.run_batches.Goals as goal

pub loop-init : goal.loop-init
loop-init g c =
    let it = c.args.generator.now in
    let size = c.args.amount.size in
    let state = state_of c.args.start.live in
    let all : c.args.amount.batches - 0 ≡ c.args.amount.batches = omega arith in
    record {
      stands = c.requires.stands;
      past = c.requires.first;
      leads = leads_same c.args.start _ _ (ap (λ n. batches_ran it size n state c.draws-draws.result) all
          ∙ ap (batches_ran it size c.args.amount.batches state) c.draws-draws.ensures);
    }

pub loop-preserved : goal.loop-preserved
loop-preserved g c =
    record {
      stands = c.in_ok-turn.ensures.stands;
      past = ap (λ (s : State). s.batches) c.in_ok-turn.ensures.behind.state ∙ ap (λ n. n + 1) c.loop.invariant.past;
      leads = batch_leads c.args.start c.loop.turn c.in_ok-turn.turn _ c.args.generator.now c.args.amount.size c.args.amount.batches c.loop.counter
          c.loop.draws c.next.new.draws
          c.loop-test.true c.loop.invariant.stands.plan c.in_ok-turn.ensures.behind c.in_ok-turn.ensures.past c.loop.invariant.leads;
    }

pub returns-clause-came : goal.returns-clause-came
returns-clause-came g c =
    let it = c.args.generator.now in
    let size = c.args.amount.size in
    let state = state_of c.loop.turn.live in
    let none : c.args.amount.batches - c.loop.counter ≡ 0 = omega arith in
    leads_end c.args.start c.loop.turn _ _ c.loop.invariant.leads (ap (λ n. batches_ran it size n state c.loop.draws) none
    ∙ batches_none it size state c.loop.draws)

pub returns-clause-few : goal.returns-clause-few
returns-clause-few g c = omega (arith, c.loop.invariant.past, c.requires.few)

pub next-requires-clause-early : goal.next-requires-clause-early
next-requires-clause-early g c κs within = omega (arith, c.loop.invariant.past, c.loop-test.true, c.requires.few)
