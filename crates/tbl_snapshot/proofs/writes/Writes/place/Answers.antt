use Rattle.std.proofs.Common.{◌∙◌}
use Rattle.tbl_snapshot.proofs.Marked.{find_none, placed}
use Rattle.tbl_snapshot.proofs.Placed.{write-places}
use Rattle.tbl_snapshot.proofs.writes.Writes.place.Goals as goal

pub returns-then-not-has_bit : goal.returns-then-not-has_bit
returns-then-not-has_bit c =
    rw (← c.self.view_is) (find_none c.self.inside.bits c.args.hash c.self.inside.rows.items c.args.key.now c.requires c.self.invariant.0
    c.if-not-has_bit.ensures)

pub returns-in-Some : goal.returns-in-Some
returns-in-Some c = rw (← c.self.view_is) (placed c.self.inside.rows.items c.args.key.now c.get.result (c.get.ensures
    ∙ write-places c.self.inside.rows.items c.self.inside.places c.in-Some.places c.args.key.now c.self.invariant.1 c.in-Some.is))

pub returns-in-None : goal.returns-in-None
returns-in-None c = rw (← c.self.view_is) (placed c.self.inside.rows.items c.args.key.now c.place_of.result c.place_of.ensures)
