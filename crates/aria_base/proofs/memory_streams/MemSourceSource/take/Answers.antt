use Rattle.std.proofs.Common.{◌≡◌, ℕ, ◌+◌, ◌-◌, ◌<◌, ◌≤◌, List, [], ◌++◌, length, take, drop, min, sym, ◌∙◌, ap, arith, length-append, length-drop, rules, refl}
use Rattle.std.specs.List.{slice_range}
use Rattle.std.proofs.lemmas.List.{length-take-le, drop_all}
use Rattle.std.proofs.lemmas.List.Folds.{drop_split}
use Rattle.std.proofs.Math.Seq.{take-append_seam}
use Rattle.aria_base.proofs.memory_streams.MemSourceSource.take.Goals as goal

-- the next n bytes went to the buffer's front
moved : (bytes front buf left : List ℕ) (at n piece : ℕ) → drop at bytes ≡ left → at ≤ length bytes → 0 < piece → 0 < length buf
    → n ≡ min (min piece (length buf)) (length bytes - at) → front ≡ slice_range bytes at (at + n)
    → (n ≤ length (front ++ drop n buf)) × (left ≡ take n (front ++ drop n buf) ++ drop (at + n) bytes) × (n ≡ 0 → drop (at + n) bytes ≡ [])
moved bytes front buf left at n piece e within piece_pos buf_pos is front_is =
    let size : length (drop at bytes) ≡ length bytes - at = length-drop at bytes in
    let fits : at + n - at ≤ length (drop at bytes) = omega (arith, is, size) in
    let count : at + n - at ≡ n = omega arith in
    let long : length front ≡ n = ap length front_is ∙ length-take-le (at + n - at) (drop at bytes) fits ∙ count in
    let seam : take n (front ++ drop n buf) ≡ front = rw (← long) (take-append_seam front (drop (length front) buf)) in (
      omega (arith, long, length-append front (drop n buf)),
      sym e ∙ drop_split bytes at (at + n) (omega arith) ∙ ap (λ l. l ++ drop (at + n) bytes) (sym (seam ∙ front_is)),
      λ z. drop_all (at + n) bytes (omega (arith, is, z)),
    )

pub returns-clause-bytes : goal.returns-clause-bytes
returns-clause-bytes c =
    let bytes = c.deref-2.ensures.value in
    let len : c.len.result ≡ length c.self.inside.bytes.items = search rules in
    let n : c.min-n.result ≡ min (min c.self.inside.piece (length c.args.buf.now)) (length c.self.inside.bytes.items - c.self.inside.at) = c.min-n.ensures
    ∙ rw (len, c.min.ensures) refl in
    moved c.self.inside.bytes.items c.copy_from_slice.new.self c.args.buf.now _ c.self.inside.at c.min-n.result c.self.inside.piece
    (ap (λ v. v.left) c.self.view_is) c.self.invariant.0 c.self.invariant.1 c.requires n
    (rw bytes at c.copy_from_slice.ensures.after)
