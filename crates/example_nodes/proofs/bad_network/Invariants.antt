use Rattle.part_nodes.specs.Ready.{AreReady}
use Rattle.example_nodes.proofs.bad_network.Given as goal

abbrev pub invariant-loop-k : goal.invariant-loop-k
invariant-loop-k l = AreReady l.nodes

abbrev pub invariant-loop : goal.invariant-loop
invariant-loop l = AreReady l.nodes
