use Rattle.std.proofs.Common.{ap, ◌∙◌}
use Rattle.std.specs.Option.{is_some}
use Rattle.tbl_rows.proofs.Spread.{get-home, pooled-deleted}
use Rattle.tbl_rows.proofs.Grown.{IsPool-deleted}
use Rattle.tbl_rows.proofs.pools.Pool.delete.Goals as goal

pub invariant_of-self : goal.invariant_of-self
invariant_of-self c = IsPool-deleted _ _ _ _ _ _ c.self.invariant c.place_of-place.ensures.slot c.index_mut-bucket.ensures.value c.delete-found.ensures.deleted

pub returns-clause-found : goal.returns-clause-found
returns-clause-found c = rw (← c.self.view_is) (c.delete-found.ensures.found
    ∙ ap is_some (get-home _ _ _ _ _ c.self.invariant.spread c.place_of-place.ensures.slot c.index_mut-bucket.ensures.value))

pub returns-clause-deleted : goal.returns-clause-deleted
returns-clause-deleted c =
    rw (← c.self.view_is) (pooled-deleted _ _ _ _ _ _ c.self.invariant.spread c.place_of-place.ensures.slot c.index_mut-bucket.ensures.value
    c.delete-found.ensures.deleted)
