use Rattle.tbl_rows.proofs.Beside.{beside-near, beside-far, apart-put_near, apart-put_far}
use Rattle.tbl_rows.proofs.rows.Rows.put.Goals as goal

pub invariant_of-self-then-overflows : goal.invariant_of-self-then-overflows
invariant_of-self-then-overflows c = rw c.in_ok-spent.ensures.put (apart-put_far _ _ _ _ c.self.invariant c.if-overflows.ensures)

pub returns-then-overflows-clause-put : goal.returns-then-overflows-clause-put
returns-then-overflows-clause-put c = rw (← c.self.view_is, c.in_ok-spent.ensures.put) (beside-far _ _ _ _ c.if-overflows.ensures)

pub invariant_of-self-2 : goal.invariant_of-self-2
invariant_of-self-2 c = rw c.in_ok-spent-2.ensures.put (apart-put_near _ _ _ _ c.self.invariant c.if-overflows.ensures)

pub returns-clause-put : goal.returns-clause-put
returns-clause-put c = rw (← c.self.view_is, c.in_ok-spent-2.ensures.put) (beside-near _ _ _ _)
