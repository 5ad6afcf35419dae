use Rattle.std.proofs.Common.{◌∙◌}
use Rattle.tbl_rows.proofs.Together.{get-at_home}
use Rattle.tbl_rows.proofs.tables.Tables.get_at.Goals as goal

pub returns : goal.returns
returns c = rw (← c.self.view_is) (c.get.ensures ∙ get-at_home _ _ _ _ c.self.invariant (c.from.ensures ∙ c.shard_at.ensures.home) c.index-shard.ensures)
