use Rattle.std.proofs.Common.{◌≡◌, ◌-◌}
use Rattle.serving.specs.Lives.{state_of}
use Rattle.workloads.specs.Generators.{first_draws, plan_of}
use Rattle.bench_command.specs.Benches.{batches_ran}
use Rattle.bench_command.specs.Turns.{Stands}
use Rattle.bench_command.proofs.Runs.{Leads}
use Rattle.bench_command.proofs.courses.run_batches.Given as goal

abbrev pub invariant-loop : goal.invariant-loop
invariant-loop g l = record {
  stands : Stands (plan_of l.generator) l.turn;
  past : (state_of l.turn.live).batches ≡ l.counter;
  leads : Leads l.turn (batches_ran l.generator l.amount.size (l.amount.batches - l.counter) (state_of l.turn.live) l.draws)
      l.fn.start (batches_ran l.generator l.amount.size l.amount.batches (state_of l.fn.start.live) (first_draws l.generator));
}
