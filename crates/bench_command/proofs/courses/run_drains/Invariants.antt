use Rattle.std.proofs.Common.{◌≤◌, ◌+◌, ◌-◌, length}
use Rattle.serving.specs.Lives.{plan_of, state_of}
use Rattle.bench_command.specs.Benches.{all_drained, drains_ran}
use Rattle.bench_command.specs.Turns.{Stands}
use Rattle.bench_command.proofs.Runs.{Leads}
use Rattle.bench_command.proofs.courses.run_drains.Given as goal

abbrev pub invariant-loop : goal.invariant-loop
invariant-loop g l = record {
  stands : Stands (plan_of l.initial.turn.live) l.turn;
  past : (state_of l.turn.live).batches ≤ 1000 + l.counter;
  left : length (state_of l.turn.live).waiting ≤ length (state_of l.initial.turn.live).waiting - l.counter;
  leads : Leads l.turn (drains_ran (plan_of l.initial.turn.live) (length (state_of l.initial.turn.live).waiting - l.counter) (state_of l.turn.live))
      l.initial.turn (all_drained (plan_of l.initial.turn.live) (state_of l.initial.turn.live));
}
