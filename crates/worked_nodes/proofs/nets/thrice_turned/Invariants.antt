use Rattle.part_nodes.specs.Ready.{AreReady}
use Rattle.worked_nodes.proofs.nets.thrice_turned.Given as goal

abbrev pub invariant-loop : goal.invariant-loop
invariant-loop g l = AreReady l.nodes

abbrev pub invariant-loop-back : goal.invariant-loop-back
invariant-loop-back g l = AreReady l.nodes
