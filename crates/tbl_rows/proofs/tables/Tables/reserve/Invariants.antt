-- Buckets are made, and no row is touched.
use Rattle.std.proofs.Common.{◌≡◌}
use Rattle.tbl_rows.proofs.tables.Tables.reserve.Given as goal

abbrev pub invariant-loop-number : goal.invariant-loop-number
invariant-loop-number l = l.self ≡ l.fn.self
