use Rattle.tbl_rows.proofs.Listed.{nil_apart}
use Rattle.tbl_rows.proofs.more_rows.MoreRows.new.Goals as goal

pub invariant_of-result : goal.invariant_of-result
invariant_of-result c = rw c.new.ensures.items nil_apart
