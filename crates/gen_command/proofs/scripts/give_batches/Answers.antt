use Rattle.std.proofs.Common.{◌≡◌, ◌+◌, ◌-◌, ◌++◌, ap, ◌∙◌, sym, arith}
use Rattle.std.proofs.lemmas.Result.{err_from_is_err_and}
use Rattle.load_gen.specs.Draws.{times}
use Rattle.workloads.specs.Generators.{plan_of, request_of}
use Rattle.gen_command.specs.Scripts.{batch_text}
use Rattle.gen_command.proofs.Leads.{from, from_cut, from_none, leads_same, leads_on, leads_cut, leads_end}
use Rattle.gen_command.proofs.scripts.give_batches.Goals as goal

pub loop-past-init : goal.loop-past-init
loop-past-init g c =
    let it = c.args.generator.now in
    let size = c.args.amount.size in
    let all : c.args.amount.batches - 0 ≡ c.args.amount.batches = omega arith in
    record {
      sink = omega arith;
      leads = leads_same _ _ (g.K.Sink.given c.args.out.now) (ap (λ n. from it size 1 n c.draws-draws.result) all
          ∙ ap (from it size 1 c.args.amount.batches) c.draws-draws.ensures);
    }

pub loop-past-preserved : goal.loop-past-preserved
loop-past-preserved g c =
    let it = c.args.generator.now in
    let size = c.args.amount.size in
    let past = c.loop-past.past in
    let count = c.args.amount.batches in
    let calls = times size (request_of it (past + 1)) c.loop-past.draws in
    let parts = from_cut it size count past c.loop-past.draws c.loop-past-test.true
    ∙ ap (λ d. batch_text (plan_of it).procs (past + 1) calls.0 ++ from it size (past + 1 + 1) (count - (past + 1)) d) (sym c.in_ok-give_batch.ensures.past) in
    record {
      sink = omega (arith, c.loop-past.invariant.sink, c.give_batch.ensures.sink);
      leads = leads_on _ _ _ _ _ _ _ parts c.loop-past.invariant.leads c.in_ok-give_batch.ensures.gives;
    }

pub returns-in_err-give_batch-clause-gives : goal.returns-in_err-give_batch-clause-gives
returns-in_err-give_batch-clause-gives g c =
    let parts = from_cut c.args.generator.now c.args.amount.size c.args.amount.batches c.loop-past.past c.loop-past.draws c.loop-past-test.true in
    let p = err_from_is_err_and c.from_residual.result c.from_residual.ensures.1 in
    rw p.1 (leads_cut _ _ _ _ _ _ _ parts c.loop-past.invariant.leads c.in_err-give_batch.ensures.gives)

pub returns-clause-gives : goal.returns-clause-gives
returns-clause-gives g c =
    let it = c.args.generator.now in
    let size = c.args.amount.size in
    let past = c.loop-past.past in
    let none : c.args.amount.batches - past ≡ 0 = omega arith in
    leads_end _ _ _ _ (ap (λ n. from it size (past + 1) n c.loop-past.draws) none ∙ from_none it size (past + 1) c.loop-past.draws) c.loop-past.invariant.leads
