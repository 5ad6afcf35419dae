use Rattle.tbl_rows.proofs.Grown.{IsPool-bare, pooled-bare}
use Rattle.tbl_rows.proofs.pools.Pool.new.Goals as goal

pub invariant_of-result : goal.invariant_of-result
invariant_of-result c = rw (c.in_ok-push.ensures.items, c.new-buckets.ensures.items) (IsPool-bare _ c.new.ensures)

pub returns : goal.returns
returns c = rw (c.in_ok-push.ensures.items, c.new-buckets.ensures.items) (pooled-bare _ c.new.ensures)
