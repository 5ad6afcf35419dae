-- A slot is touched, once.
use Rattle.std.proofs.Common.{◌≡◌, ◌≢◌, ℕ, suc, ◌+◌, ◌<◌, ◌≤◌, ⊎_elim, Bool, true, false, cond, Option, Some, None, List, [], ◌∷◌, ◌++◌, length, get_or, set, refl, sym, ap, subst, ◌∙◌, arith, length-set, get_or-set_same, get_or-set_other}
use Rattle.std.proofs.lemmas.Bool.{cases_eq, cases_lt, eq-eqb, ne_eqb}
use Rattle.work_claim.specs.Rule.{times}
use Rattle.baton_crew.proofs.Counts.{times-push}
use Rattle.std.proofs.lemmas.List.{get_or_default, get_or_append_left, length-append}
use Rattle.std.proofs.Math.Seq.{get_or-append_seam}
use Rattle.row_batons.specs.Layouts.{slot_in, AllTouched, TouchedBefore, StayTouched, IsTouch, AreTouches, AreStamped, AreBelow}

pub none_touched : (stamp : ℕ) (stamps : List ℕ) → AreBelow stamp stamps → AreStamped stamp stamps []
none_touched stamp stamps below = record {
  once = λ k. omega arith;
  within = λ k there. absurd (omega arith);
  stamped = λ k there. absurd (omega arith);
  others = λ k _. below k;
}

module _ (stamp : ℕ) (stamps touched : List ℕ) (are : AreStamped stamp stamps touched) where
  -- a slot that has the stamp was touched
  pub was_touched : (slot : ℕ) → get_or stamps slot 0 ≡ stamp → 1 ≤ times slot touched
  was_touched slot same = ⊎_elim (λ (none : times slot touched < 1). let none_here : times slot touched ≡ 0 = omega arith in let less =
      are.others slot none_here in absurd (omega arith)) (λ some_here. some_here) (cases_lt (times slot touched) 1)

  -- no greater stamp stands anywhere
  pub next_below : AreBelow (suc stamp) stamps
  next_below k = ⊎_elim
      (λ (none : times k touched < 1). let none_here : times k touched ≡ 0 = omega arith in let less = are.others k none_here in omega arith)
      (λ there. let same = are.stamped k there in omega arith)
      (cases_lt (times k touched) 1)

  module _ (slot : ℕ) (lt : slot < length stamps) (other : get_or stamps slot 0 ≢ stamp) where
    abbrev touched' : List ℕ
    touched' = touched ++ slot ∷ []

    abbrev stamps' : List ℕ
    stamps' = set stamps slot stamp

    here : times slot touched' ≡ times slot touched + 1
    here = times-push slot touched slot ∙ ap (λ b. times slot touched + cond b 1 0) (eq-eqb slot slot refl)

    else : (k : ℕ) → k ≢ slot → times k touched' ≡ times k touched
    else k ne = let h = times-push k touched slot in let e = ap (λ b. ◌+◌ (times k touched) (cond b 1 0)) (ne_eqb slot k (λ same. ne (sym same))) in omega arith

    not_before : times slot touched ≡ 0
    not_before = ⊎_elim (λ (none : times slot touched < 1). omega arith) (λ there. absurd (other (are.stamped slot there))) (cases_lt (times slot touched) 1)

    by_slot : (P : ℕ → Type 0) → P slot → ((k : ℕ) → k ≢ slot → P k) → (k : ℕ) → P k
    by_slot P at_slot at_else k = ⊎_elim (λ (e : k ≡ slot). subst P (sym e) at_slot) (λ ne. at_else k ne) (cases_eq k slot)

    pub touched_now : 1 ≤ times slot touched'
    touched_now = omega (arith, here)

    pub still_touched : StayTouched touched touched'
    still_touched k there = let h = times-push k touched slot in omega arith

    pub stamped_now : AreStamped stamp stamps' touched'
    stamped_now = record {
      once = by_slot (λ k. times k touched' ≤ 1) (omega (arith, here, not_before)) (λ k ne. let h = are.once k in omega (arith, else k ne));
      within = by_slot (λ k. 1 ≤ times k touched' → k < length stamps') (λ _. rw (length-set stamps slot stamp) lt)
          (λ k ne there. let w = are.within k (omega (arith, else k ne)) in rw (length-set stamps slot stamp) w);
      stamped = by_slot (λ k. 1 ≤ times k touched' → get_or stamps' k 0 ≡ stamp) (λ _. get_or-set_same stamps slot stamp 0 lt)
          (λ k ne there. get_or-set_other stamps slot k stamp 0 ne ∙ are.stamped k (omega (arith, else k ne)));
      others = by_slot (λ k. times k touched' ≡ 0 → get_or stamps' k 0 < stamp) (λ none. absurd (omega (arith, here)))
          (λ k ne none. let h = are.others k (let e = else k ne in omega arith) in rw (get_or-set_other stamps slot k stamp 0 ne) h);
    }

-- what was touched stays so
pub all_still : (table : List (Option ℕ)) (numbers before after : List ℕ) → StayTouched before after → AllTouched table numbers before
    → AllTouched table numbers after
all_still table numbers before after stay all i d lt k at = stay k (all i d lt k at)

-- one number more
pub one_more : (table : List (Option ℕ)) (numbers : List ℕ) (i : ℕ) (before after : List ℕ) → TouchedBefore table numbers i before → StayTouched before after
    → ((k : ℕ) → slot_in table (get_or numbers i 0) ≡ Some k → 1 ≤ times k after) → TouchedBefore table numbers (i + 1) after
one_more table numbers i before after so_far stay here j k lt at = ⊎_elim
    (λ (less : j < i). stay k (so_far j k less at))
    (λ ge. let same : j ≡ i = omega arith in here k (subst (λ (n : ℕ). slot_in table (get_or numbers n 0) ≡ Some k) same at))
    (cases_lt j i)

-- and so all of them
pub all_of_them : (table : List (Option ℕ)) (numbers : List ℕ) (i : ℕ) (touched : List ℕ) → length numbers ≤ i → TouchedBefore table numbers i touched
    → AllTouched table numbers touched
all_of_them table numbers i touched end so_far j d lt k at = so_far j k (omega arith) (ap (slot_in table) (get_or_default numbers j 0 d lt) ∙ at)

-- one request more
pub one_touch : (table : List (Option ℕ)) (slots : ℕ) (reads writes touches : List (List ℕ)) (p : ℕ) (list : List ℕ)
    → AreTouches table slots reads writes touches p
    → IsTouch table slots (get_or reads p []) (get_or writes p []) list → AreTouches table slots reads writes (touches ++ list ∷ []) (p + 1)
one_touch table slots reads writes touches p list are is = record {
  each = (let l = length-append touches (list ∷ []) in let e = are.each in omega arith);
  touch = λ x lt. ⊎_elim
      (λ (less : x < p). subst (IsTouch table slots (get_or reads x []) (get_or writes x []))
      (sym (get_or_append_left touches (list ∷ []) [] x (let e = are.each in omega arith))) (are.touch x less))
      (λ ge. let last : p ≡ x = omega arith in
      subst (λ (n : ℕ). IsTouch table slots (get_or reads n []) (get_or writes n []) (get_or (touches ++ list ∷ []) n [])) last
      (subst (IsTouch table slots (get_or reads p []) (get_or writes p []))
      (sym (ap (λ (n : ℕ). get_or (touches ++ list ∷ []) n []) (sym are.each) ∙ get_or-append_seam touches list [] [])) is))
      (cases_lt x p);
}
