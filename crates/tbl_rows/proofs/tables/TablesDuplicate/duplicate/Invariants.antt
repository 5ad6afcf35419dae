use Rattle.std.proofs.Common.{◌≡◌, take}
use Rattle.tbl_rows.proofs.tables.TablesDuplicate.duplicate.Given as goal

abbrev pub invariant-loop-shard : goal.invariant-loop-shard
invariant-loop-shard l = l.shards.items ≡ take l.shard-index l.shard-items
