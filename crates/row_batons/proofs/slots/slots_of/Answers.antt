use Rattle.std.proofs.Common.{◌≡◌, ◌∙◌, ap, sym, arith, length}
use Rattle.row_batons.proofs.Slotting.{one_request, all_same_length}
use Rattle.row_batons.specs.Layouts.{with_slots}
use Rattle.row_batons.proofs.slots.slots_of.Goals as goal

pub loop-one-preserved : goal.loop-one-preserved
loop-one-preserved c =
    let kept = c.loop-one.invariant in (
      one_request c.loop-one.slots c.give_all.new.self c.args.waiting.now c.args.writes.now c.loop-one.one-index c.loop-one.place c.one-item.result
          c.list.result.now _ c.loop-one-test.true c.requires.many kept.2 c.one-item.is c.list.ensures (c.in_ok-give_all.ensures
          ∙ ap (λ ks. with_slots c.loop-one.slots ks c.list.result.now) c.as_slice.ensures) kept.0,
      ap (λ s. length s.table) c.in_ok-give_all.ensures ∙ all_same_length c.loop-one.slots c.as_slice.result.now c.list.result.now ∙ kept.1,
      (let h = kept.2 in omega arith),
    )
