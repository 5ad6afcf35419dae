use Rattle.std.proofs.Common.{◌∙◌}
use Rattle.tbl_snapshot.proofs.Buffers.{row-written, row-below}
use Rattle.tbl_snapshot.proofs.overlays.OverlayLends.look.Goals as goal

pub returns-in-Some : goal.returns-in-Some
returns-in-Some c = rw (← c.self.view_is) (c.as_ref.ensures.value ∙ row-written c.self.inside.snapshot c.self.inside.writes c.args.key.now _ c.in-Some.ensures)

pub returns-in-None : goal.returns-in-None
returns-in-None c = rw (← c.self.view_is) (c.get_at.ensures ∙ row-below c.self.inside.snapshot c.self.inside.writes c.args.key.now c.in-None.ensures)
