use Rattle.std.proofs.Common.{◌∙◌}
use Rattle.tbl_rows.proofs.Together.{IsWhole-put}
use Rattle.worked_rows.proofs.rows.put.Goals as goal

pub returns : goal.returns
returns c = IsWhole-put _ _ _ _ _ c.requires (c.from.ensures ∙ c.shard_of.ensures.home) c.index_mut-shard.ensures.value c.put.ensures.number c.put.ensures.own
