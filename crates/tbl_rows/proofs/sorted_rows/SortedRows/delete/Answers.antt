use Rattle.std.proofs.Common.{refl, ap, sym, ◌∙◌}
use Rattle.std.specs.Option.{is_some}
use Rattle.aria_base.proofs.Trees.{from_entries-remove, get-lookup}
use Rattle.tbl_rows.proofs.sorted_rows.SortedRows.delete.Goals as goal

pub returns-clause-found : goal.returns-clause-found
returns-clause-found c = rw (← c.self.view_is) (c.is_some.ensures ∙ ap is_some (c.remove.ensures.value ∙ sym (get-lookup _ _)))

pub returns-clause-deleted : goal.returns-clause-deleted
returns-clause-deleted c = rw (← c.self.view_is, from_entries-remove _ _ _ c.remove.ensures.updates.0) refl
