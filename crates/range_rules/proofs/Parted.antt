-- The list of a batch in two parts: what is placed in the order, and what waits.
use Rattle.std.proofs.Common.{◌≡◌, List, [], ◌∷◌, ◌++◌, map, true, false, cond, refl, sym, ap, ◌∙◌, subst}
use Rattle.std.specs.Prelude.{◌&&◌, if◌then◌else◌, slice_index_or}
use Rattle.std.specs.List.{filter}
use Rattle.std.specs.List.Sorted.{IsPermutation}
use Rattle.std.proofs.lemmas.List.{map-append, append-nil}
use Rattle.std.proofs.lemmas.List.Sorted.{IsPermutation-map}
use Rattle.std.proofs.lemmas.Simd.{map-map}
use Rattle.aria_base.specs.Orders.{Cells}
use Rattle.aria_base.specs.declared.keys.Key.{Key}
use Rattle.proc_lang.specs.declared.ends.End.{End}
use Rattle.batch_rules.specs.declared.verdicts.Rule.{Rule}
use Rattle.batch_rules.specs.declared.verdicts.Verdict.{Verdict}
use Rattle.batch_rules.specs.declared.verdicts.Verdict.TheVariants.{Finish, Wait}
use Rattle.batch_rules.specs.Verdicts.{Dependencies, waits}
use Rattle.batch_rules.specs.Batches.{Carrier, Judged, Entry, has_ended, is_late, is_carried, judged, placed}
use Rattle.batch_rules.specs.Batches.{ordered, carried, waiting, fate_after, lates_behind, settled}
use Rattle.batch_rules.proofs.Carriers.{placed-map}
use Rattle.batch_rules.proofs.Lists.{filter-map}
use Rattle.batch_rules.proofs.Places.{each_once}
use Rattle.range_rules.specs.declared.routines.NumberedWork.{NumberedWork}
use Rattle.range_rules.specs.declared.routines.Ran.{Ran}
use Rattle.range_rules.specs.Batches.{fate_of}

map_id : {X : Type 0} (xs : List X) → map (λ x. x) xs ≡ xs
map_id [] = refl
map_id (x ∷ xs) = ap (λ l. x ∷ l) (map_id xs)

module _ (ran_of : NumberedWork → Ran) where
  -- a work that is carried by itself, with what its run comes to
  abbrev pub by : Carrier Key Cells End NumberedWork
  by = record { reads = λ w. (ran_of w).reads; rows = λ w. (ran_of w).writes; end = λ w. (ran_of w).end }

  -- a judged work with what becomes of it
  abbrev pub entry : Judged NumberedWork → Entry Key NumberedWork End
  entry d = record { judged = d; fate = fate_of (ran_of d.request) d.verdict }

  -- without a late run what becomes of each is told by its verdict
  fate_none : (w : NumberedWork) (v : Verdict) → fate_after by w v [] ≡ fate_of (ran_of w) v
  fate_none w (Finish raw) = refl
  fate_none w (Wait cause) = refl

  behind_none : (v : Verdict) → lates_behind {K = Key} {A = End} v [] ≡ []
  behind_none (Finish raw) = refl
  behind_none (Wait cause) = refl

  settled_none : (ds : List (Judged NumberedWork)) → settled by ds [] ≡ map entry ds
  settled_none [] = refl
  settled_none (d ∷ ds) = λ i. record { judged = d; fate = fate_none d.request d.verdict i }
      ∷ (ap (settled by ds) (behind_none d.verdict) ∙ settled_none ds) i

  not_late : (w : NumberedWork) (v : Verdict) → (waits v && has_ended (fate_of (ran_of w) v)) ≡ false
  not_late w (Finish raw) = refl
  not_late w (Wait cause) = refl

  none_late : (ds : List (Judged NumberedWork)) → filter is_late (map entry ds) ≡ []
  none_late [] = refl
  none_late (d ∷ ds) = λ i. cond (not_late d.request d.verdict i) (entry d ∷ none_late ds i) (none_late ds i)

  waiting_carried : (w : NumberedWork) (v : Verdict) → waits v ≡ (if has_ended (fate_of (ran_of w) v) then false else true)
  waiting_carried w (Finish raw) = refl
  waiting_carried w (Wait cause) = refl

  carried_is : (ds : List (Judged NumberedWork)) → carried (map entry ds) ≡ map entry (waiting ds)
  carried_is ds = sym (filter-map entry (λ d. waits d.verdict) is_carried ds (λ k d below.
      waiting_carried (slice_index_or ds k d).request (slice_index_or ds k d).verdict))

  ordered_is : (ds : List (Judged NumberedWork)) → ordered (map entry ds) ≡ map entry (placed (λ d. d.verdict) ds)
  ordered_is ds = (λ i. placed-map entry (λ e. e.judged.verdict) ds i ++ none_late ds i) ∙ append-nil _

  module _ (on : Dependencies NumberedWork) (rule : Rule) (list : List NumberedWork) where
    -- each judged work is placed, or it waits
    pub parted : IsPermutation (placed (λ d. d.verdict) (judged on rule [] list) ++ waiting (judged on rule [] list)) (judged on rule [] list)
    parted =
        let ds = judged on rule [] list in
        let os = placed (λ d. d.verdict) ds in
        let es = map entry ds in
        let both : ordered es ++ carried es ≡ map entry (os ++ waiting ds) =
        (λ i. ordered_is ds i ++ carried_is ds i) ∙ sym (map-append entry os (waiting ds)) in
        let all : IsPermutation (ordered es ++ carried es) es =
        subst (λ es. IsPermutation (ordered es ++ carried es) es) (settled_none ds) (each_once by on rule list []).parted in
        let back : (xs : List (Judged NumberedWork)) → map (λ e. e.judged) (map entry xs) ≡ xs = λ xs. map-map (λ e. e.judged) entry xs ∙ map_id xs in
        let mapped = IsPermutation-map (λ e. e.judged) (ordered es ++ carried es) es all in
        subst (λ l. IsPermutation l ds) (ap (map (λ e. e.judged)) both ∙ back (os ++ waiting ds))
        (subst (IsPermutation (map (λ e. e.judged) (ordered es ++ carried es))) (back ds) mapped)
