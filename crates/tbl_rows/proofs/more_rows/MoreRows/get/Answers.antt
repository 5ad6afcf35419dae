use Rattle.std.proofs.Common.{Some, ap, sym, ◌∙◌}
use Rattle.tbl_rows.proofs.Edited.{get-at, get-absent}
use Rattle.tbl_rows.proofs.more_rows.MoreRows.get.Goals as goal

pub returns-in-Some : goal.returns-in-Some
returns-in-Some c = rw (← c.self.view_is) (ap Some c.row.ensures ∙ sym (get-at _ _ _ _ (sym c.place_of.ensures ∙ c.in-Some.is) c.index.ensures))

pub returns-in-None : goal.returns-in-None
returns-in-None c = rw (← c.self.view_is) (sym (get-absent _ _ (sym c.place_of.ensures ∙ c.in-None.is)))
