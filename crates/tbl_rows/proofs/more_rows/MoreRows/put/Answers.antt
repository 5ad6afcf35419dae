use Rattle.std.proofs.Common.{ap, sym, ◌∙◌}
use Rattle.std.proofs.Common.{not}
use Rattle.std.specs.Option.{is_some}
use Rattle.tbl_rows.proofs.Edited.{get-at, get-absent, apart-set, set-at, apart-push, push-absent}
use Rattle.tbl_rows.proofs.more_rows.MoreRows.put.Goals as goal

pub invariant_of-self : goal.invariant_of-self
invariant_of-self c = rw c.set_row-was.ensures.set (apart-set _ _ _ c.args.row c.index_mut-entry.ensures.value c.self.invariant)

pub invariant_of-self-in-Ok : goal.invariant_of-self-in-Ok
invariant_of-self-in-Ok c = rw (c.push_reserved.ensures.items, c.make_room.ensures.items, c.new.ensures)
    (apart-push _ _ _ (sym c.place_of.ensures ∙ c.in-None.is) c.self.invariant)

pub returns-in-Some-clause-put : goal.returns-in-Some-clause-put
returns-in-Some-clause-put c = rw (← c.self.view_is, c.set_row-was.ensures.set)
    (set-at _ _ _ _ _ (sym c.place_of.ensures ∙ c.in-Some.is) c.index_mut-entry.ensures.value)

pub returns-in-Some-clause-added : goal.returns-in-Some-clause-added
returns-in-Some-clause-added c =
    rw (← c.self.view_is) (sym (ap (λ row. not (is_some row)) (get-at _ _ _ _ (sym c.place_of.ensures ∙ c.in-Some.is) c.index_mut-entry.ensures.value)))

pub returns-in-Ok-clause-put : goal.returns-in-Ok-clause-put
returns-in-Ok-clause-put c = rw (← c.self.view_is, c.push_reserved.ensures.items, c.make_room.ensures.items, c.new.ensures)
    (push-absent _ _ _ (sym c.place_of.ensures ∙ c.in-None.is))

pub returns-in-Ok-clause-added : goal.returns-in-Ok-clause-added
returns-in-Ok-clause-added c = rw (← c.self.view_is) (sym (ap (λ row. not (is_some row)) (get-absent _ _ (sym c.place_of.ensures ∙ c.in-None.is))))
