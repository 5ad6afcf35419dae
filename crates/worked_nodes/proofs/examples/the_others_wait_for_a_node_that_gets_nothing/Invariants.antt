use Rattle.part_nodes.specs.Ready.{AreReady}
use Rattle.worked_nodes.proofs.examples.the_others_wait_for_a_node_that_gets_nothing.Given as goal

abbrev pub invariant-loop : goal.invariant-loop
invariant-loop g l = AreReady l.net
