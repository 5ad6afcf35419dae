use Rattle.std.proofs.Common.{◌≡◌, suc, drop, ap, sym, subst, ◌∙◌, ◌+◌, arith, ◌∷◌}
use Rattle.std.proofs.Math.Seq.{drop-cons}
use Rattle.std.specs.Ordering.{eq_by_cmp}
use Rattle.batch_rules.specs.Touches.{is_among}
use Rattle.fallback_locks.specs.LastWaves.{with_writer}
use Rattle.fallback_locks.proofs.LastWaves.{writer_twice}
use Rattle.fallback_locks.proofs.levels.note_writes.Goals as goal

pub loop-key-preserved : goal.loop-key-preserved
loop-key-preserved g c =
    let R = g.T.Table.order in
    let last = g.T.Table.last c.loop-key.table in
    let index = c.loop-key.key-index in
    let k = c.key-item.result in
    let rest = drop (index + 1) c.args.keys.now in
    let next : suc index ≡ index + 1 = omega arith in
    let cons : drop index c.args.keys.now ≡ k ∷ rest = drop-cons c.args.keys.now index k c.loop-key-test.true
    ∙ (λ i. sym c.key-item.is i ∷ drop (next i) c.args.keys.now) in (
      λ q. ap (with_writer c.args.wave (is_among R rest q)) (c.in_ok-note_write.ensures.noted q)
          ∙ writer_twice c.args.wave (eq_by_cmp R q k) (is_among R rest q) (last q)
          ∙ ap (λ keys. with_writer c.args.wave (is_among R keys q) (last q)) (sym cons)
          ∙ c.loop-key.invariant.0 q,
      λ q held. c.in_ok-note_write.ensures.held q (c.loop-key.invariant.1 q held),
    )

pub note_write-requires : goal.note_write-requires
note_write-requires g c =
    let k = c.key-item.result in
    c.loop-key.invariant.1 k (subst (g.T.Table.holds c.args.table.now) (sym c.key-item.is) (c.requires c.loop-key.key-index k c.loop-key-test.true))
