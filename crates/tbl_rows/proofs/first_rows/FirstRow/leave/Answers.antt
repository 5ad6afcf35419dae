use Rattle.std.proofs.Common.{not, ap, sym, ◌∙◌}
use Rattle.tbl_rows.proofs.Firsts.{empty-kept, only-kept, only-left}
use Rattle.tbl_rows.proofs.first_rows.FirstRow.leave.Goals as goal

pub returns-then-is_moved-clause-moved : goal.returns-then-is_moved-clause-moved
returns-then-is_moved-clause-moved c = rw (c.take.ensures.value, ← c.self.view_is, c.in-Some.is)
    (only-kept _ _ (sym c.is_moved.ensures ∙ c.if-is_moved.true))

pub returns-then-is_moved-clause-stayed : goal.returns-then-is_moved-clause-stayed
returns-then-is_moved-clause-stayed c = rw (c.take.ensures.after, ← c.self.view_is, c.in-Some.is)
    (only-left _ _ (ap not (sym c.is_moved.ensures ∙ c.if-is_moved.true)))

pub returns-else-is_moved-clause-moved : goal.returns-else-is_moved-clause-moved
returns-else-is_moved-clause-moved c = rw (c.new.ensures, ← c.self.view_is, c.in-Some.is)
    (only-left _ _ (sym c.is_moved.ensures ∙ c.if-is_moved.false))

pub returns-else-is_moved-clause-stayed : goal.returns-else-is_moved-clause-stayed
returns-else-is_moved-clause-stayed c = rw (← c.self.view_is, c.in-Some.is)
    (only-kept _ _ (ap not (sym c.is_moved.ensures ∙ c.if-is_moved.false)))

pub returns-in-None-clause-moved : goal.returns-in-None-clause-moved
returns-in-None-clause-moved c = rw (c.new-in-None.ensures, ← c.self.view_is, c.in-None.is) (empty-kept _)

pub returns-in-None-clause-stayed : goal.returns-in-None-clause-stayed
returns-in-None-clause-stayed c = rw (← c.self.view_is, c.in-None.is) (empty-kept _)
