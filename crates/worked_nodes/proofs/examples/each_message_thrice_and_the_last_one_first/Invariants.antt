use Rattle.part_nodes.specs.Ready.{AreReady}
use Rattle.worked_nodes.proofs.examples.each_message_thrice_and_the_last_one_first.Given as goal

abbrev pub invariant-loop : goal.invariant-loop
invariant-loop g l = AreReady l.net
