use Rattle.part_nodes.specs.Ready.{AreReady}
use Rattle.example_nodes.proofs.run.Given as goal

abbrev pub invariant-loop-copies : goal.invariant-loop-copies
invariant-loop-copies g l = AreReady l.nodes
