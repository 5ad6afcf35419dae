use Rattle.tbl_rows.proofs.Spread.{pooled-put}
use Rattle.tbl_rows.proofs.Grown.{IsPool-put}
use Rattle.tbl_rows.proofs.pools.Pool.put_here.Goals as goal

pub invariant_of-self-2 : goal.invariant_of-self-2
invariant_of-self-2 c = IsPool-put _ _ _ _ _ _ _ c.self.invariant c.place_of-place.ensures.slot c.index_mut-bucket.ensures.value c.in_ok-added.ensures.put

pub returns-clause-put : goal.returns-clause-put
returns-clause-put c = rw (← c.self.view_is) (pooled-put _ _ _ _ _ _ _ c.self.invariant.spread c.place_of-place.ensures.slot c.index_mut-bucket.ensures.value
    c.in_ok-added.ensures.put)
