use Rattle.node_batch.specs.Sames.{same_message}
use Rattle.node_seats.proofs.seats.Seat.give.Goals as goal

pub take-requires-clause-fresh : goal.take-requires-clause-fresh
take-requires-clause-fresh c = let f = c.requires.fresh in (same_message, f.0, f.1, f.2)

pub returns-clause-shows : goal.returns-clause-shows
returns-clause-shows c = λ desk shows fresh. c.in_ok-take.ensures.shows same_message desk shows fresh
