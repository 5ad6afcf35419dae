use Rattle.std.proofs.Common.{◌≡◌, ◌∙◌, ◌+◌, ◌<◌, ◌++◌, ◌∷◌, [], ℕ, ap, sym, subst, arith, length}
use Rattle.row_batons.specs.Layouts.{AreTouches, IsTouch}
use Rattle.row_batons.proofs.Touching.{one_touch}
use Rattle.row_batons.proofs.layouts.touches_of.Goals as goal

pub loop-place-preserved : goal.loop-place-preserved
loop-place-preserved c =
    let kept = c.loop-place.invariant in
    let now = c.in_ok-touch_both.ensures in
    let reads = c.args.numbers.now.reads in
    let writes = c.args.numbers.now.writes in
    let p = c.loop-place.place in
    let list = c.touch_both.new.touched.items in
    let is : IsTouch c.args.table.now c.args.slots (Rattle.std.proofs.Common.get_or reads p []) (Rattle.std.proofs.Common.get_or writes p []) list =
    subst (λ (n : ℕ). IsTouch c.args.table.now n (Rattle.std.proofs.Common.get_or reads p []) (Rattle.std.proofs.Common.get_or writes p []) list) kept.length
    (subst (λ l. IsTouch c.args.table.now (length c.loop-place.stamps.items) l (Rattle.std.proofs.Common.get_or writes p []) list) c.list-reads.ensures
    (subst (λ l. IsTouch c.args.table.now (length c.loop-place.stamps.items) c.list-reads.result.now l list) c.list-writes.ensures now.touch)) in
    record {
      touches = subst (λ l. AreTouches c.args.table.now c.args.slots reads writes l (p + 1))
          (sym (c.in_ok-push.ensures ∙ ap (λ l. c.loop-place.touches ++ l ∷ []) c.as_slice.ensures.value))
          (one_touch c.args.table.now c.args.slots reads writes c.loop-place.touches p list kept.touches is);
      stamps = λ k. let lt = now.stamp k in omega arith;
      length = now.length ∙ kept.length;
    }

pub returns : goal.returns
returns c =
    let same : c.loop-place.place ≡ length c.args.numbers.now.reads =
    (let at_most = c.loop-place.auto.place-end in let end = c.loop-place-test.false in let count = c.len-count.ensures in omega arith) in
    subst (AreTouches c.args.table.now c.args.slots c.args.numbers.now.reads c.args.numbers.now.writes c.loop-place.touches) same c.loop-place.invariant.touches
