use Rattle.std.proofs.Common.{◌≡◌, ◌++◌, map, drop}
use Rattle.std.specs.Map.Iter.{deref_pair}
use Rattle.tbl_rows.proofs.Spread.{listed}
use Rattle.tbl_rows.proofs.Together.{rows_of}
use Rattle.tbl_rows.proofs.tables.Tables.rows.Given as goal

abbrev pub invariant-loop-shard : goal.invariant-loop-shard
invariant-loop-shard l = map deref_pair l.rows.items ++ listed (rows_of (drop l.shard-index l.shard-items)) ≡ listed (rows_of l.shard-items)
