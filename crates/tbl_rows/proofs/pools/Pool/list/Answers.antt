use Rattle.std.proofs.Common.{◌∷◌, ◌+◌, sym, ap, ◌∙◌, drop}
use Rattle.std.proofs.lemmas.List.{drop_all, drop_more}
use Rattle.tbl_rows.proofs.Spread.{adds-more, adds-all}
use Rattle.tbl_rows.proofs.pools.Pool.list.Goals as goal

pub loop-bucket-preserved : goal.loop-bucket-preserved
loop-bucket-preserved c =
    let items = c.deref-bucket-items.result.now in
    adds-more _ _ _ _ _ _ (drop_more items c.loop-bucket.bucket-index c.bucket-item.result c.loop-bucket-test.true
    ∙ ap (λ b. b ∷ drop (c.loop-bucket.bucket-index + 1) items) (sym c.bucket-item.is)) c.loop-bucket.invariant c.in_ok-list.ensures

pub returns : goal.returns
returns c =
    rw (← c.self.view_is)
    (adds-all _ _ _ _ _ c.self.invariant.spread (rw c.deref-bucket-items.ensures.value at c.loop-bucket.invariant)
    (drop_all c.loop-bucket.bucket-index c.self.inside.buckets.items (rw c.deref-bucket-items.ensures.value at c.loop-bucket-test.false)))
