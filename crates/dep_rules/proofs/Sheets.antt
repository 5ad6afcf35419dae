-- The verdict by a batch's numbers is the verdict by its keys.
use Rattle.std.proofs.Common.{◌≡◌, ap, subst, ◌∙◌, ℕ, ◌+◌, ◌-◌, ◌<◌, ◌≤◌, List, [], map, take, get_or, Some, All, slice_get, length, arith}
use Rattle.std.specs.Prelude.{true, slice_index_or}
use Rattle.std.specs.Ordering.{nat_cmp}
use Rattle.std.specs.declared.cmp.Ordering.{Ordering}
use Rattle.std.proofs.lemmas.List.{get_or-map}
use Rattle.std.proofs.lemmas.Option.{slice_get_within, get_or_from_slice_get}
use Rattle.batch_rules.specs.declared.verdicts.Rule.{Rule}
use Rattle.batch_rules.specs.Numberings.{IsOneToOneOn, HasKeysOf}
use Rattle.batch_rules.specs.Touches.{is_among}
use Rattle.batch_rules.specs.Verdicts.{meets, by_keys}
use Rattle.batch_rules.proofs.Numberings.{same_verdict, meets_numbers}
use Rattle.dep_rules.specs.Numberings.{SheetDecides}
use Rattle.dep_rules.specs.Sheets.{Sheet, reads_at, writes_at}
use Rattle.dep_rules.specs.Words.{tids_before}
use Rattle.dep_rules.proofs.Lists.{map-tids}

module _ {K S : Type 0} (R : K → K → Ordering) (keys : List K) (number : K → ℕ) (one : IsOneToOneOn R keys number) (sets : List S) (tid : ℕ) (me : S)
    (first : 1 ≤ tid) (at : slice_get sets (tid - 1) ≡ Some me) where
  -- one side of a request by its lists of numbers
  side-at : (side : S → List K) (lists : List (List ℕ)) → lists ≡ map (λ s. map number (side s)) sets → (k : ℕ) (d : S) → k < length sets
      → slice_index_or lists k [] ≡ map number (side (get_or sets k d))
  side-at side lists is k d lt = ap (λ l. get_or l k []) is ∙ get_or-map (λ s. map number (side s)) sets k d [] lt

  -- one kind of dependency on all earlier requests
  pub same_all : (mine theirs : S → List K) (ms ts : List (List ℕ)) → ms ≡ map (λ s. map number (mine s)) sets → ts ≡ map (λ s. map number (theirs s)) sets
      → HasKeysOf R keys mine sets → HasKeysOf R keys theirs sets
      → map (λ t. meets nat_cmp (slice_index_or ms (tid - 1) []) (slice_index_or ts (t - 1) [])) (tids_before tid) ≡ map
      (λ other. meets R (mine me) (theirs other)) (take (tid - 1) sets)
  same_all mine theirs ms ts ms_are ts_are has_mine has_theirs =
      let Has : K → Type 0 = λ k. is_among R keys k ≡ true in
      let within : tid - 1 < length sets = slice_get_within sets (tid - 1) me at in
      let is_me : get_or sets (tid - 1) me ≡ me = get_or_from_slice_get sets (tid - 1) me me at in
      let mine_is : slice_index_or ms (tid - 1) [] ≡ map number (mine me) = side-at mine ms ms_are (tid - 1) me within ∙ ap (λ s. map number (mine s)) is_me in
      let all_mine : All Has (mine me) = subst (λ s. All Has (mine s)) is_me (has_mine (tid - 1) me within) in
      map-tids (λ t. meets nat_cmp (slice_index_or ms (tid - 1) []) (slice_index_or ts (t - 1) [])) (λ other. meets R (mine me) (theirs other)) tid sets
      (omega arith) (λ k d below.
      let place : 1 + k - 1 ≡ k = omega arith in
      let inside : k < length sets = omega arith in
      ap (λ n. meets nat_cmp (slice_index_or ms (tid - 1) []) (slice_index_or ts n [])) place
      ∙ (λ i. meets nat_cmp (mine_is i) (side-at theirs ts ts_are k d inside i))
      ∙ meets_numbers R keys number one (mine me) (theirs (get_or sets k d)) all_mine (has_theirs k d inside))

pub sheet_decides : {K S : Type 0} (R : K → K → Ordering) (reads writes : S → List K) (keys : List K) (number : K → ℕ) (sets : List S) (sheet : Sheet)
    (rule : Rule) (tid : ℕ) (me : S)
    → SheetDecides R reads writes keys number sets sheet rule tid me
sheet_decides R reads writes keys number sets sheet rule tid me one is first at =
    let all = same_all R keys number one sets tid me first at in
    same_verdict (by_keys nat_cmp (reads_at sheet) (writes_at sheet)) (tids_before tid) tid (by_keys R reads writes) (take (tid - 1) sets) me rule (record {
      waw = all writes writes sheet.writes sheet.writes is.writes_are is.writes_are is.writes_among is.writes_among;
      raw = all reads writes sheet.reads sheet.writes is.reads_are is.writes_are is.reads_among is.writes_among;
      war = all writes reads sheet.writes sheet.reads is.writes_are is.reads_are is.writes_among is.reads_among;
    })
