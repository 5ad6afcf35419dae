use Rattle.std.proofs.Common.{ap, ◌∙◌}
use Rattle.std.specs.Prelude.{is_some}
use Rattle.tbl_snapshot.proofs.Placed.{among-places}
use Rattle.tbl_snapshot.proofs.reads.Reads.has.Goals as goal

pub returns-in-Some : goal.returns-in-Some
returns-in-Some c = rw (← c.self.view_is) (c.is_some.ensures ∙ ap is_some c.get.ensures
    ∙ among-places c.self.inside.keys.items c.self.inside.places c.in-Some.places c.args.key.now c.self.invariant.1 c.in-Some.is)
