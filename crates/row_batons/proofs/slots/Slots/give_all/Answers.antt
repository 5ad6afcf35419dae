use Rattle.std.proofs.Common.{◌≡◌, ◌∙◌, refl, ap, sym, arith, length}
use Rattle.row_batons.proofs.Slotting.{one_slot, same_length}
use Rattle.row_batons.proofs.slots.Slots.give_all.Goals as goal

pub loop-key-preserved : goal.loop-key-preserved
loop-key-preserved c =
    let kept = c.loop-key.invariant in (
      one_slot c.loop-key.self c.give.new.self c.args.keys.now c.args.numbers.now c.loop-key.key-index c.loop-key.index c.key-item.result _ _
          c.loop-key-test.true c.requires.same kept.2 c.key-item.is refl c.in_ok-give.ensures kept.0,
      ap (λ s. length s.table) c.in_ok-give.ensures ∙ same_length c.loop-key.self c.key-item.result _ ∙ kept.1,
      (let h = kept.2 in omega arith),
    )
