use Rattle.std.proofs.Common.{◌≡◌, ◌≤◌, ◌-◌, length}
use Rattle.script_course.specs.Served.{Leads}
use Rattle.serving.specs.Drains.{drained, drains}
use Rattle.nodes_command.specs.Bases.{AreDone, state_now}
use Rattle.nodes_command.proofs.drains.drain.Given as goal

abbrev pub invariant-loop : goal.invariant-loop
invariant-loop g l = record {
  sink : g.K.Sink.faults l.initial.out ≤ g.K.Sink.faults l.out;
  done : AreDone l.nodes;
  plan : l.nodes.world.catalog ≡ l.catalog;
  leads : Leads (drained l.catalog l.each l.line (length (state_now l.initial.nodes).waiting - l.counter) (state_now l.nodes)) (g.K.Sink.given l.out)
      (drains l.catalog l.each l.line (state_now l.initial.nodes)) (g.K.Sink.given l.initial.out);
}
