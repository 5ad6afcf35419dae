use Rattle.std.proofs.Common.{◌∙◌}
use Rattle.tbl_rows.proofs.Firsts.{beside-kept, apart-kept}
use Rattle.tbl_rows.proofs.buckets.Bucket.split.Goals as goal

pub fill-requires : goal.fill-requires
fill-requires c = rw (c.leave-first.ensures.stayed, c.in_ok-more.ensures.stayed) (apart-kept _ _ _ c.self.invariant)

pub fill-requires-2 : goal.fill-requires-2
fill-requires-2 c = rw (c.leave-first.ensures.moved, c.in_ok-more.ensures.moved) (apart-kept _ _ _ c.self.invariant)

pub returns-clause-moved : goal.returns-clause-moved
returns-clause-moved c = c.fill-2.ensures.same
    ∙ rw (c.leave-first.ensures.moved, c.in_ok-more.ensures.moved, ← c.self.view_is) (beside-kept _ _ _)

pub returns-clause-stayed : goal.returns-clause-stayed
returns-clause-stayed c = c.fill.ensures.same
    ∙ rw (c.leave-first.ensures.stayed, c.in_ok-more.ensures.stayed, ← c.self.view_is) (beside-kept _ _ _)
