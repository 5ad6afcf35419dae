use Rattle.tbl_rows.proofs.Edited.{taken-apart, taken-is, taken-gone}
use Rattle.tbl_rows.proofs.more_rows.MoreRows.take_one.Goals as goal

pub invariant_of-self : goal.invariant_of-self
invariant_of-self c = rw c.drop_empty.ensures (taken-apart _ _ c.self.invariant _ c.pop-taken.ensures.items)

pub returns-clause-taken : goal.returns-clause-taken
returns-clause-taken c = rw c.drop_empty.ensures (taken-is _ _ c.self.invariant _ _ c.self.view_is c.pop-taken.ensures.items)

pub returns-clause-apart : goal.returns-clause-apart
returns-clause-apart c = rw c.drop_empty.ensures (taken-gone _ _ c.self.invariant _ c.pop-taken.ensures.items)
