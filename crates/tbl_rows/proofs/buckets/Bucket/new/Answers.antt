use Rattle.tbl_rows.proofs.Beside.{IsApart-bare, beside-bare}
use Rattle.tbl_rows.proofs.buckets.Bucket.new.Goals as goal

pub invariant_of-result : goal.invariant_of-result
invariant_of-result c = IsApart-bare _ _ c.new.ensures

pub returns : goal.returns
returns c = beside-bare _ _ c.new.ensures c.new-2.ensures
