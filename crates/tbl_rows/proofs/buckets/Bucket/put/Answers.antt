use Rattle.std.proofs.Common.{not, ap, ◌∙◌}
use Rattle.std.specs.Option.{is_some}
use Rattle.tbl_rows.proofs.Beside.{beside-near, beside-far, apart-put_near, apart-put_far, near-found, far-found}
use Rattle.tbl_rows.proofs.Firsts.{get-none, added-both}
use Rattle.tbl_rows.proofs.buckets.Bucket.put.Goals as goal

pub invariant_of-self : goal.invariant_of-self
invariant_of-self c = rw (c.set.ensures, c.new.ensures) (apart-put_near _ _ _ _ c.self.invariant ((c.is_free.ensures c.if-is_free.true).1))

pub returns-then-is_free-clause-put : goal.returns-then-is_free-clause-put
returns-then-is_free-clause-put c = rw (← c.self.view_is, c.set.ensures, c.new.ensures) (beside-near _ _ _ _)

pub returns-then-is_free-clause-added : goal.returns-then-is_free-clause-added
returns-then-is_free-clause-added c =
    let free = c.is_free.ensures c.if-is_free.true in
    rw (← c.self.view_is) (added-both _ _ _ (rw free.0 (get-none _)) free.1)

pub invariant_of-self-in-Ok : goal.invariant_of-self-in-Ok
invariant_of-self-in-Ok c = rw c.in-Ok.ensures.set (apart-put_near _ _ _ _ c.self.invariant (c.self.invariant _ c.in-Ok.ensures.there))

pub invariant_of-self-in-Err : goal.invariant_of-self-in-Err
invariant_of-self-in-Err c = rw (c.in-Err.ensures.kept, c.in_ok-put-in-Err.ensures.put) (apart-put_far _ _ _ _ c.self.invariant c.in-Err.ensures.absent)

pub returns-in-Ok-clause-put : goal.returns-in-Ok-clause-put
returns-in-Ok-clause-put c = rw (← c.self.view_is, c.in-Ok.ensures.set) (beside-near _ _ _ _)

pub returns-in-Ok-clause-added : goal.returns-in-Ok-clause-added
returns-in-Ok-clause-added c = rw (← c.self.view_is) (ap not (near-found _ _ _ c.in-Ok.ensures.there))

pub returns-in_ok-put-in-Err-clause-put : goal.returns-in_ok-put-in-Err-clause-put
returns-in_ok-put-in-Err-clause-put c =
    rw (← c.self.view_is, c.in-Err.ensures.kept, c.in_ok-put-in-Err.ensures.put, c.in-Err.ensures.back) (beside-far _ _ _ _ c.in-Err.ensures.absent)

pub returns-in_ok-put-in-Err-clause-added : goal.returns-in_ok-put-in-Err-clause-added
returns-in_ok-put-in-Err-clause-added c = rw (← c.self.view_is) (c.in_ok-put-in-Err.ensures.added
    ∙ ap not (far-found _ _ _ (ap is_some c.in-Err.ensures.absent)))
