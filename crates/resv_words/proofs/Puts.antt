-- Which numbers the views put at a place, before and after a view changes or comes.
use Rattle.std.proofs.Common.{◌≡◌, ℕ, zero, suc, ◌⊎◌, inl, inr, ⊎_elim, min, List, [], ◌∷◌, ◌++◌, set, sum_by, subst, sym, refl, ap, ◌∙◌, arith}
use Rattle.std.proofs.lemmas.Bool.{cases_eq, cases_lt}
use Rattle.std.proofs.lemmas.List.Elements.{Contains-append_left, Contains-append_right, Contains-append_cases, Contains-push, Contains-push_cases}
use mathlib.Core.Option.{some, some-injective, some-ne-none}
use lib.ListN.{get_elem?}
use Rattle.atomic_table.proofs.Lists.{at_set, at_snoc, at_longer, set_else}
use Rattle.aria_base.proofs.Reserved.{unmarked}
use Rattle.aria_base.proofs.Shares.{Each, sum_by-at_two}
use Rattle.aria_base.specs.declared.marks.Mark.{Mark}
use Rattle.aria_base.specs.Reserved.{number_under, place_of, IsMarked}
use Rattle.resv_words.specs.declared.rules.View.{View}
use Rattle.resv_words.specs.Rule.{IsPut, IsLeastPut, Idle}

pub set_there : {A : Type 0} (l : List A) (i : ℕ) (a b : A) → get_elem? l i ≡ some b → get_elem? (set l i a) i ≡ some a
set_there [] i a b at = absurd (some-ne-none b (sym at))
set_there (x ∷ xs) zero a b at = refl
set_there (x ∷ xs) (suc i) a b at = set_there xs i a b at

pub there_last : {A : Type 0} (l : List A) (a : A) → (i : ℕ) × (get_elem? (l ++ a ∷ []) i ≡ some a)
there_last [] a = (zero, refl)
there_last (x ∷ xs) a = let last = there_last xs a in (suc last.0, last.1)

-- ---- what is marked in longer lists

module _ (place : ℕ) where
  pub marked_left : (ms ns : List Mark) (t : ℕ) → IsMarked place ms t → IsMarked place (ms ++ ns) t
  marked_left ms ns t (m, stands, at, is) = (m, Contains-append_left ms ns m stands, at, is)

  pub marked_right : (ms ns : List Mark) (t : ℕ) → IsMarked place ns t → IsMarked place (ms ++ ns) t
  marked_right ms ns t (m, stands, at, is) = (m, Contains-append_right ms ns m stands, at, is)

  pub marked_either : (ms ns : List Mark) (t : ℕ) → IsMarked place (ms ++ ns) t → IsMarked place ms t ⊎ IsMarked place ns t
  marked_either ms ns t (m, stands, at, is) = ⊎_elim (λ left. inl (m, left, at, is)) (λ right. inr (m, right, at, is)) (Contains-append_cases ms ns m stands)

  pub marked_last : (ms : List Mark) (m : Mark) → place_of m ≡ place → IsMarked place (ms ++ m ∷ []) m.tid
  marked_last ms m at = (m, Contains-push ms m, at, refl)

  pub marked_last_cases : (ms : List Mark) (m : Mark) (t : ℕ) → IsMarked place (ms ++ m ∷ []) t → IsMarked place ms t ⊎ ((place_of m ≡ place) × (m.tid ≡ t))
  marked_last_cases ms m t (n, stands, at, is) =
      ⊎_elim
      (λ left. inl (n, left, at, is))
      (λ last. inr (ap place_of last ∙ at, ap (λ (x : Mark). x.tid) last ∙ is))
      (Contains-push_cases ms m n stands)

-- ---- what is put by changed lists of views

module _ (tag place : ℕ) where
  -- what the views put is put after one has changed, if what that one put is
  pub put_kept : (views : List View) (seat : ℕ) (v w : View) → get_elem? views seat ≡ some v
      → ((t : ℕ) → IsMarked place v.marks t → IsPut tag place (set views seat w) (number_under tag t))
      → (n : ℕ) → IsPut tag place views n → IsPut tag place (set views seat w) n
  put_kept views seat v w at kept n (j, u, t, there, marked, is) =
      ⊎_elim
      (λ here.
      let same : u ≡ v = some-injective u v (sym there ∙ ap (get_elem? views) here ∙ at) in
      subst (IsPut tag place (set views seat w)) (sym is) (kept t (subst (λ (x : View). IsMarked place x.marks t) same marked)))
      (λ else. (j, u, t, set_else views seat j w else ∙ there, marked, is))
      (cases_eq j seat)

  pub put_back : (views : List View) (seat : ℕ) (w : View) (n : ℕ) → IsPut tag place (set views seat w) n
      → IsPut tag place views n ⊎ ((t : ℕ) × IsMarked place w.marks t × (n ≡ number_under tag t))
  put_back views seat w n (j, u, t, there, marked, is) =
      ⊎_elim
      (λ here. inr (t, subst (λ (x : View). IsMarked place x.marks t) (sym here.1) marked, is))
      (λ else. inl (j, u, t, else.1, marked, is))
      (at_set views seat j w u there)

  pub put_longer : (views : List View) (w : View) (n : ℕ) → IsPut tag place views n → IsPut tag place (views ++ w ∷ []) n
  put_longer views w n (j, u, t, there, marked, is) = (j, u, t, at_longer views (w ∷ []) j u there, marked, is)

  pub put_longer_back : (views : List View) (w : View) (n : ℕ) → IsPut tag place (views ++ w ∷ []) n
      → IsPut tag place views n ⊎ ((t : ℕ) × IsMarked place w.marks t × (n ≡ number_under tag t))
  put_longer_back views w n (j, u, t, there, marked, is) =
      ⊎_elim
      (λ before. inl (j, u, t, before, marked, is))
      (λ last. inr (t, subst (λ (x : View). IsMarked place x.marks t) (sym last) marked, is))
      (at_snoc views w u j there)

  -- where one seat has all shares, only its marks are put
  pub put_alone : (views : List View) (seat : ℕ) (v : View) → get_elem? views seat ≡ some v → sum_by (λ (x : View). x.share) views ≡ v.share → Each Idle views
      → (n : ℕ) → IsPut tag place views n → (t : ℕ) × IsMarked place v.marks t × (n ≡ number_under tag t)
  put_alone views seat v at alone idle n (j, u, t, there, marked, is) =
      ⊎_elim
      (λ here.
      let same : u ≡ v = some-injective u v (sym there ∙ ap (get_elem? views) here ∙ at) in
      (t, subst (λ (x : View). IsMarked place x.marks t) same marked, is))
      (λ else.
      let both = sum_by-at_two (λ (x : View). x.share) views j seat u v else there at in
      let none : u.marks ≡ [] = idle j u there (omega arith) in
      absurd (unmarked place t (subst (λ ms. IsMarked place ms t) none marked)))
      (cases_eq j seat)

  -- ---- the least of what is put

  module _ (old : List ℕ) where
    pub least_kept : (before after : List View) (word : ℕ) → ((n : ℕ) → IsPut tag place before n → IsPut tag place after n)
        → ((n : ℕ) → IsPut tag place after n → IsPut tag place before n)
        → IsLeastPut old tag place before word → IsLeastPut old tag place after word
    least_kept before after word there back is = record {
      start = is.start;
      least = λ n put. is.least n (back n put);
      made = ⊎_elim (λ start. inl start) (λ put. inr (there word put)) is.made;
    }

    pub least_more : (before after : List View) (word number : ℕ) → ((n : ℕ) → IsPut tag place before n → IsPut tag place after n)
        → ((n : ℕ) → IsPut tag place after n → IsPut tag place before n ⊎ (n ≡ number)) → IsPut tag place after number
        → IsLeastPut old tag place before word → IsLeastPut old tag place after (min word number)
    least_more before after word number there back new is =
        let start = is.start in
        record {
          start = omega arith;
          least = λ n put. ⊎_elim (λ before. let le = is.least n before in omega arith) (λ same. omega arith) (back n put);
          made = ⊎_elim
              (λ lt. let e : min word number ≡ word = omega arith in
              ⊎_elim (λ start. inl (e ∙ start)) (λ put. inr (subst (IsPut tag place after) (sym e) (there word put))) is.made)
              (λ ge. let e : min word number ≡ number = omega arith in inr (subst (IsPut tag place after) (sym e) new))
              (cases_lt word number);
        }
