use Rattle.std.proofs.Common.{◌∙◌}
use Rattle.tbl_rows.proofs.Spread.{get-home}
use Rattle.tbl_rows.proofs.pools.Pool.get.Goals as goal

pub returns : goal.returns
returns c = rw (← c.self.view_is) (c.get.ensures ∙ get-home _ _ _ _ _ c.self.invariant.spread c.place_of.ensures.slot c.index-bucket.ensures)
