use Rattle.node_seats.specs.Seats.{AreFirst}
use Rattle.node_seats.proofs.all_seats.first_seats.Given as goal

abbrev pub invariant-loop-node : goal.invariant-loop-node
invariant-loop-node l = AreFirst l.nodes l.rows l.node l.seats.items
