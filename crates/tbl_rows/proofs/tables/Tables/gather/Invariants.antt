use Rattle.std.proofs.Common.{ℕ, ◌<◌}
use Rattle.std.specs.Prelude.{slice_index_or}
use Rattle.tbl_rows.specs.Shards.{Piece, IsOwn}
use Rattle.tbl_rows.proofs.tables.Tables.gather.Given as goal

abbrev pub invariant-loop-shard : goal.invariant-loop-shard
invariant-loop-shard l = (i : ℕ) (d : Piece) → i < l.shard-index → IsOwn (slice_index_or l.shard-items i d)
