-- Buckets are made, and no row is touched.
use Rattle.std.proofs.Common.{◌≡◌}
use Rattle.tbl_rows.proofs.pools.Pool.reserve.Given as goal

abbrev pub invariant-loop : goal.invariant-loop
invariant-loop l = l.self ≡ l.fn.self
