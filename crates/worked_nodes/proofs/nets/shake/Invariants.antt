use Rattle.part_nodes.specs.Ready.{AreReady}
use Rattle.worked_nodes.proofs.nets.shake.Given as goal

abbrev pub invariant-loop : goal.invariant-loop
invariant-loop g l = AreReady l.nodes
