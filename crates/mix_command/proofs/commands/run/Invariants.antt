use Rattle.std.proofs.Common.{◌≡◌}
use Rattle.workloads.specs.Generators.{orders_of}
use Rattle.mix_command.specs.Courses.{stage_after}
use Rattle.mix_command.specs.Turns.{IsEarly, stage_of}
use Rattle.mix_command.proofs.commands.run.Given as goal

abbrev pub invariant-loop : goal.invariant-loop
invariant-loop g l = record {
  stage : stage_of l.turn ≡ stage_after (orders_of l.settings.amount l.settings.stock) l.settings.rule l.settings.amount.size l.counter;
  early : IsEarly (stage_of l.turn);
}
