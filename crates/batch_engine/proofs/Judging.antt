-- The verdicts that are read off the words are those of the judged list.
use Rattle.std.proofs.Common.{◌≡◌, refl, sym, ap, ◌∙◌, ℕ, ◌+◌, ◌-◌, List, [], ◌∷◌, ◌++◌, map, length, take, Some, arith, append_assoc, length-append}
use Rattle.std.specs.List.{range_with_len, slice_get}
use Rattle.std.proofs.Math.Seq.{take-append_seam}
use Rattle.std.proofs.lemmas.List.{length-map}
use Rattle.std.specs.Ordering.{nat_cmp}
use Rattle.aria_base.specs.Orders.{key_cmp}
use Rattle.aria_base.specs.declared.keys.Key.{Key}
use Rattle.batch_rules.specs.Batches.{judged}
use Rattle.batch_rules.specs.Verdicts.{by_keys, verdict}
use Rattle.batch_rules.specs.declared.verdicts.Rule.{Rule}
use Rattle.batch_rules.specs.declared.verdicts.Verdict.{Verdict}
use Rattle.dep_rules.specs.Sheets.{Sheet, reads_at, writes_at}
use Rattle.dep_rules.specs.Words.{tids_before}
use Rattle.dep_rules.proofs.Sheets.{sheet_decides}
use Rattle.batch_engine.specs.Answers.{verdicts_on}
use Rattle.batch_engine.specs.Marks.{NumbersKeys}

module _ {S : Type 0} (reads writes : S → List Key) (sets : List S) (sheet : Sheet) (h : NumbersKeys reads writes sets sheet) (rule : Rule) where
  abbrev verdict_at : ℕ → Verdict
  verdict_at tid = verdict nat_cmp (reads_at sheet) (writes_at sheet) rule (tids_before tid) tid

  at_seam : (before : List S) (s : S) (rest : List S) → slice_get (before ++ s ∷ rest) (length before) ≡ Some s
  at_seam [] s rest = refl
  at_seam (b ∷ bs) s rest = at_seam bs s rest

  one-verdict : (earlier : List S) (s : S) (rest : List S) → sets ≡ earlier ++ s ∷ rest
      → verdict_at (length earlier + 1) ≡ verdict key_cmp reads writes rule earlier s
  one-verdict earlier s rest e =
      let place : length earlier + 1 - 1 ≡ length earlier = omega arith in
      let here = (λ i. slice_get (e i) (place i)) ∙ at_seam earlier s rest in
      let before = (λ i. take (place i) (e i)) ∙ take-append_seam earlier (s ∷ rest) in
      sheet_decides key_cmp reads writes h.keys h.number sets sheet rule (length earlier + 1) s h.one_to_one h.lists (omega arith) here
      ∙ ap (λ l. verdict key_cmp reads writes rule l s) before

  verdicts-behind : (earlier rest : List S) → sets ≡ earlier ++ rest
      → map verdict_at (range_with_len (length earlier + 1) (length rest)) ≡ map (λ d. d.verdict) (judged (by_keys key_cmp reads writes) rule earlier rest)
  verdicts-behind earlier [] e = refl
  verdicts-behind earlier (s ∷ rest) e =
      let first = one-verdict earlier s rest e in
      let next = ap (λ n. map verdict_at (range_with_len (n + 1) (length rest))) (sym (length-append earlier (s ∷ [])))
      ∙ verdicts-behind (earlier ++ s ∷ []) rest (e ∙ sym (append_assoc earlier (s ∷ []) rest)) in
      λ i. first i ∷ next i

  pub verdicts-are : verdicts_on rule sheet ≡ map (λ d. d.verdict) (judged (by_keys key_cmp reads writes) rule [] sets)
  verdicts-are =
      let count : length sheet.reads ≡ length sets = ap length h.lists.reads_are ∙ length-map sets (λ s. map h.number (reads s)) in
      ap (λ n. map verdict_at (range_with_len 1 n)) count ∙ verdicts-behind [] sets refl
