use Rattle.std.proofs.Common.{refl, sym, subst, ◌∙◌}
use Rattle.std.specs.Option.{IsSome}
use Rattle.tbl_rows.proofs.Firsts.{get-none, get-here, get-other, only-set}
use Rattle.tbl_rows.proofs.first_rows.FirstRow.replace.Goals as goal
use Rattle.tbl_rows.proofs.first_rows.FirstRow.replace.Goals.{in-Some+else-is_at, in-None}

pub returns-then-is_at-clause-set : goal.returns-then-is_at-clause-set
returns-then-is_at-clause-set c = rw (← c.self.view_is, c.in-Some.is, c.set_row.ensures.set) (only-set _ _ _ (sym c.is_at.ensures ∙ c.if-is_at.true))

pub returns-then-is_at-clause-there : goal.returns-then-is_at-clause-there
returns-then-is_at-clause-there c = rw (← c.self.view_is, c.in-Some.is) (subst IsSome (sym (get-here _ _ (sym c.is_at.ensures ∙ c.if-is_at.true))) refl)

pub returns-clause-absent : goal.returns-clause-absent
returns-clause-absent c = elim c.match-self.branch [
  | in-Some+else-is_at w ↦ rw (w.result-is, ← c.self.view_is, w.in-Some.is) (get-other _ _ (sym w.is_at.ensures ∙ w.if-is_at.false))
  | in-None w ↦ rw (w.result-is, ← c.self.view_is, w.in-None.is) (get-none _)
]
