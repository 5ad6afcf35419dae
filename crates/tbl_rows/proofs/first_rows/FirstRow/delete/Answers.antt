use Rattle.std.proofs.Common.{sym, ◌∙◌}
use Rattle.tbl_rows.proofs.Beside.{remove-none}
use Rattle.tbl_rows.proofs.Firsts.{absent, present, only-gone}
use Rattle.tbl_rows.proofs.first_rows.FirstRow.delete.Goals as goal

pub returns-then-found-clause-deleted : goal.returns-then-found-clause-deleted
returns-then-found-clause-deleted c = rw (c.take.ensures.after, ← c.self.view_is)
    (only-gone _ _ (rw c.self.view_is (present _ _ c.get.ensures (sym c.is_some-found.ensures ∙ c.if-found.true))))

pub returns-else-found-clause-deleted : goal.returns-else-found-clause-deleted
returns-else-found-clause-deleted c = sym (remove-none _ _ (absent _ _ c.get.ensures (sym c.is_some-found.ensures ∙ c.if-found.false)))
