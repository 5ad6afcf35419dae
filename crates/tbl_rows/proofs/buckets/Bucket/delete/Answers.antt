use Rattle.std.proofs.Common.{sym, ◌∙◌}
use Rattle.tbl_rows.proofs.Beside.{apart-shrunk, apart-removed, near-found, near-removed, far-found, beside-removed}
use Rattle.tbl_rows.proofs.buckets.Bucket.delete.Goals as goal

pub fill-requires : goal.fill-requires
fill-requires c = rw c.delete.ensures.deleted (apart-shrunk _ _ _ c.self.invariant)

pub returns-then-delete-clause-found : goal.returns-then-delete-clause-found
returns-then-delete-clause-found c = rw (← c.self.view_is) (near-found _ _ _ (sym c.delete.ensures.found ∙ c.if-delete.true))

pub returns-then-delete-clause-deleted : goal.returns-then-delete-clause-deleted
returns-then-delete-clause-deleted c = c.fill.ensures.same ∙ rw (← c.self.view_is, c.delete.ensures.deleted)
    (near-removed _ _ _ c.self.invariant (sym c.delete.ensures.found ∙ c.if-delete.true))

pub invariant_of-self-2 : goal.invariant_of-self-2
invariant_of-self-2 c = rw (c.delete.ensures.deleted, c.delete-2.ensures.deleted) (apart-removed _ _ _ c.self.invariant)

pub returns-clause-found : goal.returns-clause-found
returns-clause-found c = rw (← c.self.view_is) (c.delete-2.ensures.found ∙ far-found _ _ _ (sym c.delete.ensures.found ∙ c.if-delete.false))

pub returns-clause-deleted : goal.returns-clause-deleted
returns-clause-deleted c = rw (← c.self.view_is, c.delete.ensures.deleted, c.delete-2.ensures.deleted) (beside-removed _ _ _)
