use Rattle.std.proofs.Common.{sym, ◌∙◌}
use Rattle.aria_base.proofs.Trees.{get-lookup}
use Rattle.tbl_rows.proofs.sorted_rows.SortedRows.get.Goals as goal

pub returns : goal.returns
returns c = rw (← c.self.view_is) (c.get.ensures.value ∙ sym (get-lookup _ _))
