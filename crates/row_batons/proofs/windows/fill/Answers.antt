use Rattle.std.proofs.Common.{◌≡◌, ◌∙◌, ◌+◌, ap, sym, refl, arith, subst, ◌<◌, ℕ, take, List, map}
use Rattle.atomic_table.proofs.Lists.{at_index}
use Rattle.aria_base.proofs.Orders.{key_cmp_total, key_cmp-IsAntisymmetric}
use Rattle.row_batons.specs.Windows.{AreAt}
use Rattle.row_batons.proofs.Laid.{fill_step}
use Rattle.row_batons.proofs.Fronts.{laid_behind}
use Rattle.row_batons.proofs.windows.fill.Goals as goal

pub loop-slot-preserved : goal.loop-slot-preserved
loop-slot-preserved g c =
    let i = c.loop-slot.slot-index in
    let kept = c.loop-slot.invariant in
    let within = c.requires.slots i 0 c.loop-slot-test.true in
    let key_at = at_index c.args.keys.now _ c.index-keys-slot.result within c.index-keys-slot.is ∙ ap mathlib.Core.Option.some (sym c.in_ok-key.ensures) in (
      fill_step (g.A.Access.seen c.loop-slot.window).map _ c.args.keys.now c.args.touched.now c.args.rows.now i _ c.in_ok-key.key c.in_ok-duplicate.field-0
          c.index-rows-index.result c.loop-slot-test.true c.requires.rows refl
          key_at
          (c.in_ok-duplicate.ensures
          ∙ subst (λ (n : ℕ). c.index-rows-index.result ≡ Rattle.std.proofs.Common.get_or c.args.rows.now n c.index-rows-index.result) kept.1
          c.index-rows-index.is)
          (ap (λ s. s.map) c.in_ok-write.ensures.written)
          ∙ kept.0,
      (let h = kept.1 in omega arith),
      subst (AreAt c.args.keys.now (take (i + 1) c.args.touched.now)) (sym (ap (λ s. s.noted.writes) c.in_ok-write.ensures.written))
          (laid_behind key_cmp_total key_cmp-IsAntisymmetric c.args.keys.now c.requires.apart c.args.touched.now i
          (g.A.Access.seen c.loop-slot.window).noted.writes _ c.in_ok-key.key c.in_ok-duplicate.field-0 c.loop-slot-test.true c.requires.once refl key_at
          kept.2),
    )
