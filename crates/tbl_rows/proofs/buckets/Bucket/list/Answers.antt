use Rattle.tbl_rows.proofs.Firsts.{adds-two}
use Rattle.tbl_rows.proofs.buckets.Bucket.list.Goals as goal

pub returns : goal.returns
returns c = rw (← c.self.view_is) (adds-two _ _ _ _ _ c.self.invariant c.in_ok-list.ensures c.in_ok-list-2.ensures)
