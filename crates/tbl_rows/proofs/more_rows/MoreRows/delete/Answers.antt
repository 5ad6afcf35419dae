use Rattle.std.proofs.Common.{ap, sym, ◌∙◌}
use Rattle.std.specs.Option.{is_some}
use Rattle.tbl_rows.proofs.Edited.{get-at, get-absent, apart-swap_remove, swap_remove-at, remove-absent}
use Rattle.tbl_rows.proofs.more_rows.MoreRows.delete.Goals as goal

pub invariant_of-self : goal.invariant_of-self
invariant_of-self c = rw c.swap_remove.ensures.items (apart-swap_remove _ _ _ _ (sym c.place_of.ensures
    ∙ c.in-Some.is) c.swap_remove.ensures.value c.self.invariant)

pub returns-in-Some-clause-found : goal.returns-in-Some-clause-found
returns-in-Some-clause-found c = rw (← c.self.view_is) (sym (ap is_some (get-at _ _ _ _ (sym c.place_of.ensures ∙ c.in-Some.is) c.swap_remove.ensures.value)))

pub returns-in-Some-clause-deleted : goal.returns-in-Some-clause-deleted
returns-in-Some-clause-deleted c = rw (← c.self.view_is, c.swap_remove.ensures.items)
    (swap_remove-at _ _ _ _ c.self.invariant (sym c.place_of.ensures ∙ c.in-Some.is) c.swap_remove.ensures.value)

pub returns-in-None-clause-found : goal.returns-in-None-clause-found
returns-in-None-clause-found c = rw (← c.self.view_is) (sym (ap is_some (get-absent _ _ (sym c.place_of.ensures ∙ c.in-None.is))))

pub returns-in-None-clause-deleted : goal.returns-in-None-clause-deleted
returns-in-None-clause-deleted c = rw (← c.self.view_is) (remove-absent _ _ (sym c.place_of.ensures ∙ c.in-None.is))
