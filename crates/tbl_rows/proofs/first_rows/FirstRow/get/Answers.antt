use Rattle.std.proofs.Common.{Some, ap, sym, ◌∙◌}
use Rattle.tbl_rows.proofs.Firsts.{get-none, get-here, get-other}
use Rattle.tbl_rows.proofs.first_rows.FirstRow.get.Goals as goal

pub returns-then-is_at : goal.returns-then-is_at
returns-then-is_at c = rw (← c.self.view_is, c.in-Some.is) (ap Some c.row.ensures ∙ sym (get-here _ _ (sym c.is_at.ensures ∙ c.if-is_at.true)))

pub returns-else-is_at : goal.returns-else-is_at
returns-else-is_at c = rw (← c.self.view_is, c.in-Some.is) (sym (get-other _ _ (sym c.is_at.ensures ∙ c.if-is_at.false)))

pub returns-in-None : goal.returns-in-None
returns-in-None c = rw (← c.self.view_is, c.in-None.is) (sym (get-none _))
