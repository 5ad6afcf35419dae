-- Pieces stay what they are when items are added behind them.
use Rattle.std.proofs.Common.{◌≡◌, ℕ, ◌+◌, ◌-◌, ◌≤◌, List, [], ◌∷◌, ◌++◌, map, length, take, drop, refl, sym, ap, ◌∙◌, arith, All}
use Rattle.std.proofs.lemmas.List.{length-drop, map-append, take-append-le, drop-append-le}
use Rattle.std.proofs.lemmas.List.Elements.{All-head, All-tail}
use Rattle.std.proofs.Math.Seq.{drop-append_seam, take-length}
use Rattle.baton_crew.specs.Lists.{piece, IsSpan}
use Rattle.baton_crew.specs.declared.spans.Span.{Span}

module _ {T : Type 0} (items more : List T) where
  longer : (span : Span) → IsSpan (length items) span → piece (items ++ more) span ≡ piece items span
  longer span is =
      let ordered = is.ordered in
      let within = is.within in
      let rest : span.end - span.start ≤ length (drop span.start items) = (let l = length-drop span.start items in omega arith) in
      ap (take (span.end - span.start)) (drop-append-le span.start items more (omega arith))
      ∙ take-append-le (span.end - span.start) (drop span.start items) more rest

  pub all_longer : (spans : List Span) → All (IsSpan (length items)) spans → map (piece (items ++ more)) spans ≡ map (piece items) spans
  all_longer [] all = refl
  all_longer (span ∷ spans) all =
      let here = longer span (All-head (IsSpan (length items)) span spans all) in
      let rest = all_longer spans (All-tail (IsSpan (length items)) span spans all) in
      λ i. here i ∷ rest i

  new : (span : Span) → span.start ≡ length items → span.end ≡ length items + length more → piece (items ++ more) span ≡ more
  new span start end =
      let count : span.end - span.start ≡ length more = omega arith in
      (λ i. take (count i) (drop (start i) (items ++ more)))
      ∙ ap (take (length more)) (drop-append_seam items more)
      ∙ take-length more

  -- a list that is added stands behind the others
  pub pushed : (items' : List T) (spans spans' : List Span) (span : Span) → items' ≡ items ++ more → spans' ≡ spans ++ span ∷ []
      → All (IsSpan (length items)) spans
      → span.start ≡ length items → span.end ≡ length items + length more → map (piece items') spans' ≡ map (piece items) spans ++ more ∷ []
  pushed items' spans spans' span grown added all start end =
      (λ i. map (piece (grown i)) (added i))
      ∙ map-append (piece (items ++ more)) spans (span ∷ [])
      ∙ (λ i. all_longer spans all i ++ new span start end i ∷ [])

pub still_spans : (m n : ℕ) (spans : List Span) → m ≤ n → All (IsSpan m) spans → All (IsSpan n) spans
still_spans m n spans le all k d lt = let is = all k d lt in let within = is.within in record { ordered = is.ordered; within = omega arith }
