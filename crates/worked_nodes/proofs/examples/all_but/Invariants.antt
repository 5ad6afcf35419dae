use Rattle.part_nodes.specs.Ready.{AreReady}
use Rattle.worked_nodes.proofs.examples.all_but.Given as goal

abbrev pub invariant-loop : goal.invariant-loop
invariant-loop g l = AreReady l.nodes

abbrev pub invariant-loop-k : goal.invariant-loop-k
invariant-loop-k g l = AreReady l.nodes
