-- The verdicts that are read off the words of a batch are those of its definition.
use Rattle.std.proofs.Common.{◌≡◌, refl, sym, ap, ◌∙◌, ℕ, ◌+◌, ◌-◌, List, [], ◌∷◌, ◌++◌, map, length, take, Bool, Some, arith, append_assoc, length-append}
use Rattle.std.specs.Prelude.{slice_index_or}
use Rattle.std.specs.List.{range_with_len, slice_get}
use Rattle.std.proofs.Math.Seq.{take-append_seam}
use Rattle.std.proofs.lemmas.List.{length-map, get_or-map}
use Rattle.std.proofs.lemmas.Option.{slice_get_within, get_or_from_slice_get}
use Rattle.std.proofs.lemmas.Simd.{map-map}
use Rattle.aria_base.specs.declared.keys.Key.{Key}
use Rattle.batch_rules.specs.declared.verdicts.Rule.{Rule}
use Rattle.batch_rules.specs.Batches.{judged, judged_through}
use Rattle.batch_rules.specs.Verdicts.{Dependencies, through, verdict_on}
use Rattle.batch_rules.proofs.Carriers.{judged-through}
use Rattle.dep_rules.specs.Sheets.{Sheet}
use Rattle.range_rules.specs.Batches.{written, depends}
use Rattle.range_marks.specs.Decisions.{Spot, scan_verdict, scan_verdicts}
use Rattle.range_marks.proofs.Spots.{IsSheetOf, scan_verdict-is}

-- verdicts do not change with what carries a request
pub verdicts-through : {O P : Type 0} (of : O → P) (on : Dependencies P) (rule : Rule) (xs : List O)
    → map (λ d. d.verdict) (judged (through of on) rule [] xs) ≡ map (λ d. d.verdict) (judged on rule [] (map of xs))
verdicts-through of on rule xs = sym (map-map (λ d. d.verdict) (judged_through of) (judged (through of on) rule [] xs))
    ∙ ap (map (λ d. d.verdict)) (sym (judged-through of on rule [] xs))

module _ (whole : Key → Bool) (keys : List Key) (number : Key → ℕ) (scanned : List Key) (spots : List Spot) (sheet : Sheet)
    (is : IsSheetOf whole keys number scanned spots sheet)
    (counts : List ℕ) (counted : counts ≡ map (λ s. length (written s.ran)) spots) (rule : Rule) where
  at_seam : (before : List Spot) (s : Spot) (rest : List Spot) → slice_get (before ++ s ∷ rest) (length before) ≡ Some s
  at_seam [] s rest = refl
  at_seam (b ∷ bs) s rest = at_seam bs s rest

  count_at : (n : ℕ) (s : Spot) → slice_get spots n ≡ Some s → slice_index_or counts n 0 ≡ length (written s.ran)
  count_at n s at = ap (λ l. slice_index_or l n 0) counted ∙ get_or-map (λ s. length (written s.ran)) spots n s 0 (slice_get_within spots n s at)
      ∙ ap (λ s. length (written s.ran)) (get_or_from_slice_get spots n s s at)

  one-verdict : (earlier : List Spot) (s : Spot) (rest : List Spot) → spots ≡ earlier ++ s ∷ rest → scan_verdict rule sheet counts (length earlier + 1)
      ≡ verdict_on (through (λ s. s.ran) depends) rule earlier s
  one-verdict earlier s rest e =
      let place : length earlier + 1 - 1 ≡ length earlier = omega arith in
      let here = (λ i. slice_get (e i) (place i)) ∙ at_seam earlier s rest in
      let before = (λ i. take (place i) (e i)) ∙ take-append_seam earlier (s ∷ rest) in
      scan_verdict-is whole keys number scanned spots sheet is (length earlier + 1) s (omega arith) here rule counts (count_at _ s here)
      ∙ ap (λ l. verdict_on (through (λ s. s.ran) depends) rule l s) before

  verdicts-behind : (earlier rest : List Spot) → spots ≡ earlier ++ rest
      → map (scan_verdict rule sheet counts) (range_with_len (length earlier + 1) (length rest))
      ≡ map (λ d. d.verdict) (judged (through (λ s. s.ran) depends) rule earlier rest)
  verdicts-behind earlier [] e = refl
  verdicts-behind earlier (s ∷ rest) e =
      let first = one-verdict earlier s rest e in
      let next = ap (λ n. map (scan_verdict rule sheet counts) (range_with_len (n + 1) (length rest))) (sym (length-append earlier (s ∷ [])))
      ∙ verdicts-behind (earlier ++ s ∷ []) rest (e ∙ sym (append_assoc earlier (s ∷ []) rest)) in
      λ i. first i ∷ next i

  -- the verdicts of all, by what the spots carry
  pub verdicts-are : scan_verdicts rule sheet counts ≡ map (λ d. d.verdict) (judged depends rule [] (map (λ s. s.ran) spots))
  verdicts-are =
      let many : length sheet.reads ≡ length spots = ap length is.numbered.reads_are ∙ length-map spots (λ s. map number s.sets.reads) in
      ap (λ n. map (scan_verdict rule sheet counts) (range_with_len 1 n)) many ∙ verdicts-behind [] spots refl
      ∙ verdicts-through (λ s. s.ran) depends rule spots
