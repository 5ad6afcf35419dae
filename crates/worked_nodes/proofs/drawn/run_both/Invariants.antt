use Rattle.part_nodes.specs.Ready.{AreReady}
use Rattle.worked_nodes.proofs.drawn.run_both.Given as goal

abbrev pub invariant-loop-asks : goal.invariant-loop-asks
invariant-loop-asks g l = AreReady l.net
