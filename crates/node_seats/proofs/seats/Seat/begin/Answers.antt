use Rattle.std.proofs.Common.{refl}
use Rattle.node_batch.specs.Sames.{same_message}
use Rattle.node_seats.proofs.seats.Seat.begin.Goals as goal

pub returns : goal.returns
returns c = record {
  site = c.begin.ensures.site;
  rows = c.begin.ensures.rows;
  list = c.begin.ensures.list;
  carried = refl;
  entries = c.new.ensures.items;
  given = c.none.ensures;
  shows = λ plan rule desk bare. c.begin.ensures.shows plan rule same_message desk bare;
}
