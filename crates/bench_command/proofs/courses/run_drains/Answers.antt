use Rattle.std.proofs.Common.{◌≡◌, ◌-◌, ◌<◌, ◌==◌, ◌∙◌, true, false, length, ap, subst, arith}
use Rattle.batch_core.specs.Steps.{State}
use Rattle.proc_lang.specs.Catalogs.{Plan, run_of}
use Rattle.serving.proofs.Bounds.{fewer}
use Rattle.serving.specs.Lives.{plan_of, state_of}
use Rattle.bench_command.specs.Benches.{drains_ran}
use Rattle.bench_command.specs.Turns.{Stands}
use Rattle.bench_command.proofs.Runs.{drain_leads, drains_none, drains_rest, leads_end}
use Rattle.bench_command.proofs.courses.run_drains.Goals as goal

pub returns-then-waiting-eq0-clause-came : goal.returns-then-waiting-eq0-clause-came
returns-then-waiting-eq0-clause-came g c =
    let rest : (length (state_of c.loop.turn.live).waiting == 0) ≡ true = grind (arith, c.waiting.ensures, c.if-waiting-eq0.true) in
    let plan = plan_of c.args.start.live in
    let left = length (state_of c.args.start.live).waiting - c.loop.counter in
    leads_end c.args.start c.loop.turn _ _ c.loop.invariant.leads (drains_rest plan left (state_of c.loop.turn.live) rest)

pub returns-clause-came : goal.returns-clause-came
returns-clause-came g c =
    let plan = plan_of c.args.start.live in
    let all = length (state_of c.args.start.live).waiting in
    let none : all - c.loop.counter ≡ 0 = omega (arith, c.waiting-end.ensures, c.loop-test.false) in
    leads_end c.args.start c.loop.turn _ _ c.loop.invariant.leads
    (ap (λ n. drains_ran plan n (state_of c.loop.turn.live)) none ∙ drains_none plan (state_of c.loop.turn.live))

pub loop-preserved : goal.loop-preserved
loop-preserved g c =
    let plan = plan_of c.args.start.live in
    let all = length (state_of c.args.start.live).waiting in
    let now = state_of c.loop.turn.live in
    let some : (length now.waiting == 0) ≡ false = grind (arith, c.waiting.ensures, c.if-waiting-eq0.false) in
    let any : 0 < length now.waiting = omega (arith, c.waiting.ensures, c.if-waiting-eq0.false) in
    let within : c.loop.counter < all = omega (arith, c.loop-test.true, c.waiting-end.ensures) in
    let less = fewer (run_of (plan_of c.loop.turn.live)) now any in
    let waiting = ap (λ (s : State). length s.waiting) c.in_ok-turn.ensures.behind.state in
    let batches = ap (λ (s : State). s.batches) c.in_ok-turn.ensures.behind.state in
    record {
      stands = subst (λ (p : Plan). Stands p c.in_ok-turn.turn) c.loop.invariant.stands.plan c.in_ok-turn.ensures.stands;
      past = omega (arith, batches, c.loop.invariant.past);
      left = omega (arith, less, waiting, c.loop.invariant.left);
      leads = drain_leads c.args.start c.loop.turn c.in_ok-turn.turn _ plan all c.loop.counter within some c.loop.invariant.stands.plan
          c.in_ok-turn.ensures.behind c.loop.invariant.leads;
    }
