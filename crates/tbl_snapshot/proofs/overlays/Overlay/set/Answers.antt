use Rattle.tbl_snapshot.proofs.Buffers.{seen-written}
use Rattle.tbl_snapshot.proofs.overlays.Overlay.set.Goals as goal

pub returns-clause-written : goal.returns-clause-written
returns-clause-written c = rw (← c.self.view_is) (seen-written _ _ _ _ _ _ c.in_ok-set.ensures.written)
