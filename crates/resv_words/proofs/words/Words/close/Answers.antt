use Rattle.std.proofs.Common.{◌≡◌, ◌+◌, ◌*◌, ◌^◌, rules, arith, length, ap, subst, sym, refl, ◌∙◌}
use Rattle.resv_words.specs.Seats.{Laid, Marker, closed_of, Tells}
use Rattle.resv_words.proofs.Closing.{closing}
use Rattle.resv_words.proofs.words.Words.close.Goals as goal

pub invariant_of-result : goal.invariant_of-result
invariant_of-result c =
    let laid : Laid = record {
      table = c.self.inside.table.shared.table_id;
      keys = c.self.inside.keys;
      tag = c.self.inside.tag;
      old =
          c.self.inside.table.shared.key.old.value.items;
    } in
    let seat : Marker = record { table = c.seat.inside.seat.table_id; share = c.seat.inside.seat.me.0.share; marks = c.seat.inside.seat.me.0.marks } in
    let laid_is : laid ≡ c.of-laid.result.value = c.self.view_is ∙ sym c.of-laid.ensures in
    let seat_is : seat ≡ c.of-last.result.value = c.seat.view_is ∙ sym c.of-last.ensures in
    let whole : c.seat.inside.seat.me.0.share ≡ 2 ^ 40 = ap (λ (s : Marker). s.share) c.seat.view_is ∙ c.requires.whole in
    let row_length : length c.close_with-closed.result.words.items ≡ 2 * c.self.inside.keys + 1 = sym c.close_with-closed.result.words.ok.0
    ∙ c.close_with-closed.ensures.counts.0 ∙ c.self.invariant.words_are in
    let words_length : length c.loop-place.words.items ≡ 2 * c.self.inside.keys = search rules in (
      ap (λ (s : Laid). s.tag) laid_is,
      subst (λ (s : Laid). Tells (closed_of s c.of-last.result.value) c.loop-place.words.items) laid_is
          (subst (λ (k : Marker). Tells (closed_of laid k) c.loop-place.words.items) seat_is
          (closing laid seat _ _ _ _ _ _ c.self.invariant.same_tag c.self.invariant.small_tag c.self.invariant.above c.seat.invariant.tids whole refl
          c.close_with-closed.ensures.values.2 row_length words_length (λ k lt. c.loop-place.invariant.read k (omega arith)))),
    )
