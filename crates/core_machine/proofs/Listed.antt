-- Places in lists: of requests and their verdicts, of keys, of rows.
use Rattle.std.proofs.Common.{◌≡◌, ℕ, zero, suc, ◌+◌, ◌-◌, ◌<◌, ◌≤◌, inl, inr, List, [], ◌∷◌, ◌++◌, length, take, Bool, true, false, cond, Some, None, Option, refl, sym, ap, ◌∙◌, subst, Ordering, arith}
use Rattle.std.specs.Prelude.{slice_get, IsSomeAnd, ◌||◌, ⊤}
use Rattle.std.specs.Cmp.{IsTotalOrder, tied_itself}
use Rattle.std.specs.Ordering.{eq_by_cmp, is_eq}
use Rattle.std.specs.FinMap.{FinMap, IsAntisymmetric, find}
use Rattle.std.proofs.lemmas.Bool.{or_left, or_right, false≢true, cases_lt}
use Rattle.std.proofs.lemmas.List.{append_assoc, append-nil}
use Rattle.batch_rules.specs.declared.verdicts.Rule.{Rule}
use Rattle.batch_rules.specs.Trees.{Tree, Visit, Read, Write, trace_of, end_of}
use Rattle.batch_rules.specs.Touches.{Noted, nothing, noted, all_noted, with_write, is_among, writes_of}
use Rattle.batch_rules.specs.Verdicts.{Dependencies, verdict_on, least}
use Rattle.batch_rules.specs.Laws.{IsLeast}
use Rattle.batch_rules.specs.Batches.{Judged, judge, judged}
use Rattle.batch_rules.proofs.Maps.{same_key, find-with_write}
use Rattle.batch_rules.proofs.Causes.{least-is}
use Rattle.core_machine.proofs.Told.{LeastOf}

module _ {O : Type 0} (on : Dependencies O) (rule : Rule) where
  pub judged_at : (earlier list : List O) (n : ℕ) (d : Judged O) → slice_get (judged on rule earlier list) n ≡ Some d
      → (slice_get list n ≡ Some d.request) × (d.verdict ≡ verdict_on on rule (earlier ++ take n list) d.request)
  judged_at earlier [] n d e = cc
  judged_at earlier (x ∷ xs) zero d e =
      let same : judge on rule earlier x ≡ d = cc in (
        ap (λ (d : Judged O). Some d.request) same,
        sym (ap (λ (d : Judged O). d.verdict) same) ∙ ap (λ l. verdict_on on rule l x) (sym (append-nil earlier))
            ∙ ap (λ (d : Judged O). verdict_on on rule (earlier ++ []) d.request) same,
      )
  judged_at earlier (x ∷ xs) (suc n) d e = let rest = judged_at (earlier ++ x ∷ []) xs n d e in
      (rest.0, rest.1 ∙ ap (λ l. verdict_on on rule l d.request) (append_assoc earlier (x ∷ []) (take n xs)))

  pub judged_has : (earlier list : List O) (n : ℕ) (q : O) → slice_get list n ≡ Some q → (d : Judged O) × (slice_get (judged on rule earlier list) n ≡ Some d)
      × (d.request ≡ q)
  judged_has earlier [] n q e = cc
  judged_has earlier (x ∷ xs) zero q e = let same : x ≡ q = cc in (judge on rule earlier x, refl, same)
  judged_has earlier (x ∷ xs) (suc n) q e = judged_has (earlier ++ x ∷ []) xs n q e

module _ {X : Type 0} where
  pub take_get : (xs : List X) (n m : ℕ) (x : X) → m < n → slice_get xs m ≡ Some x → slice_get (take n xs) m ≡ Some x
  take_get [] n m x lt e = cc
  take_get (y ∷ ys) zero m x lt e = absurd (omega arith)
  take_get (y ∷ ys) (suc n) zero x lt e = e
  take_get (y ∷ ys) (suc n) (suc m) x lt e = take_get ys n m x (omega arith) e

  pub get_take : (xs : List X) (n m : ℕ) (x : X) → slice_get (take n xs) m ≡ Some x → (m < n) × (slice_get xs m ≡ Some x)
  get_take [] zero m x e = cc
  get_take [] (suc n) m x e = cc
  get_take (y ∷ ys) zero m x e = cc
  get_take (y ∷ ys) (suc n) zero x e = (omega arith, e)
  get_take (y ∷ ys) (suc n) (suc m) x e = let rest = get_take ys n m x e in let lt = rest.0 in (omega arith, rest.1)

  pub get_below : (xs : List X) (m : ℕ) (x : X) → slice_get xs m ≡ Some x → m < length xs
  get_below [] m x e = cc
  get_below (y ∷ ys) zero x e = omega arith
  get_below (y ∷ ys) (suc m) x e = let lt = get_below ys m x e in omega arith

  pub some_and : (P : X → Type 0) (r : Option X) → IsSomeAnd r P → (x : X) × (r ≡ Some x) × P x
  some_and P None h = absurd h
  some_and P (Some x) h = (x, refl, h)

-- a request of the list of which this holds, by its number from 1
abbrev pub Holder : {S : Type 0} → (S → Bool) → List S → ℕ → Type 0
Holder {S} holds items j = (1 ≤ j) × ((s : S) × (slice_get items (j - 1) ≡ Some s) × (holds s ≡ true))

module _ {S : Type 0} (holds : S → Bool) (items : List S) where
  holder_below : (j : ℕ) → Holder holds items j → j < length items + 1
  holder_below j (low, (s, e, h)) = let lt = get_below items (j - 1) s e in omega arith

  holder_is : (j : ℕ) → Holder holds items j → IsSomeAnd (slice_get items (j - 1)) (λ item. holds item ≡ true)
  holder_is j (low, (s, e, h)) = subst (λ r. IsSomeAnd r (λ item. holds item ≡ true)) (sym e) h

  least_holder : (r : Option ℕ) → IsLeast holds items r → LeastOf (Holder holds items) r
  least_holder None none = λ j p. none j p.0 (holder_below j p) (holder_is j p)
  least_holder (Some k) first = (
    (first.0.low, some_and (λ item. holds item ≡ true) _ first.1),
    λ j p. elim (cases_lt j k) [ inl lt ↦ absurd (first.0.before j p.0 lt (holder_is j p)) | inr ge ↦ ge ],
  )

  pub least-holder : LeastOf (Holder holds items) (least holds items)
  least-holder = least_holder _ (least-is holds items)

module _ {K : Type 0} {R : K → K → Ordering} (o : IsTotalOrder R) (anti : IsAntisymmetric R) where
  itself : (k : K) → eq_by_cmp R k k ≡ true
  itself k = ap is_eq (tied_itself o k)

  pub among_at : (keys : List K) (p : ℕ) (k : K) → slice_get keys p ≡ Some k → is_among R keys k ≡ true
  among_at [] p k e = cc
  among_at (x ∷ xs) zero k e = let same : x ≡ k = cc in or_left _ _ (ap (eq_by_cmp R k) same ∙ itself k)
  among_at (x ∷ xs) (suc p) k e = or_right _ _ (among_at xs p k e)

  pub at_among : (keys : List K) (k : K) → is_among R keys k ≡ true → (p : ℕ) × (slice_get keys p ≡ Some k)
  at_among [] k e = cc
  at_among (x ∷ xs) k e = elim (eq_by_cmp R k x) as (λ b. eq_by_cmp R k x ≡ b → (b || is_among R xs k) ≡ true → (p : ℕ) × (slice_get (x ∷ xs) p ≡ Some k)) [
    | true ↦ λ t e. (0, ap (λ (k : K). Some k) (sym (same_key anti k x t)))
    | false ↦ λ t e. let rest = at_among xs k e in (suc rest.0, rest.1)
  ] refl e

  module _ {V : Type 0} where
    -- each key stands once
    abbrev pub Once : List (K × Option V) → Type 0
    Once [] = ⊤
    Once (w ∷ ws) = (find R w.0 ws ≡ None) × Once ws

    once_written : (ws : List (K × Option V)) (k : K) (row : Option V) → Once ws → Once (with_write R ws k row)
    once_written [] k row once = (refl, tt)
    once_written (w ∷ ws) k row once = elim (eq_by_cmp R k w.0) as (λ b. eq_by_cmp R k w.0 ≡ b → Once (cond b ((w.0, row) ∷ ws) (w ∷ with_write R ws k row))) [
      | true ↦ λ e. once
      | false ↦ λ e. (
        find-with_write o anti ws k row w.0 ∙ elim (eq_by_cmp R w.0 k) as (λ b. eq_by_cmp R w.0 k ≡ b → cond b (Some row) (find R w.0 ws) ≡ None) [
          | true ↦ λ t. absurd (false≢true (sym e ∙ ap (eq_by_cmp R k) (same_key anti w.0 k t) ∙ itself k))
          | false ↦ λ t. once.0
        ] refl,
        once_written ws k row once.1,
      )
    ] refl

    once_noted : (n : Noted K V) (visits : List (Visit K V)) → Once n.writes → Once (all_noted R n visits).writes
    once_noted n [] once = once
    once_noted n (Read k ∷ visits) once = once_noted (noted R n (Read k)) visits once
    once_noted n (Write k row ∷ visits) once = once_noted (noted R n (Write k row)) visits (once_written n.writes k row once)

    pub once_writes : {A : Type 0} (is_done : A → Bool) (t : Tree K V A) (db : FinMap R V) → Once (writes_of is_done t db)
    once_writes is_done t db = elim (is_done (end_of t db)) as (λ b. Once (cond b (all_noted R nothing (trace_of t db)).writes [])) [
      | true ↦
          once_noted nothing (trace_of t db) tt
      | false ↦ tt
    ]

    -- so a key is found with the row that stands with it
    pub found_at : (ws : List (K × Option V)) (p : ℕ) (w : K × Option V) → Once ws → slice_get ws p ≡ Some w → find R w.0 ws ≡ Some w.1
    found_at [] p w once e = cc
    found_at (x ∷ xs) zero w once e = let same : x ≡ w = cc in
        subst (λ (w : K × Option V). find R w.0 (x ∷ xs) ≡ Some w.1) same (ap (λ b. cond b (Some x.1) (find R x.0 xs)) (itself x.0))
    found_at (x ∷ xs) (suc p) w once e =
        let rest = found_at xs p w once.1 e in
        elim (eq_by_cmp R w.0 x.0) as (λ b. eq_by_cmp R w.0 x.0 ≡ b → cond b (Some x.1) (find R w.0 xs) ≡ Some w.1) [
          | true ↦ λ t. let none : Some w.1 ≡ None = sym rest ∙ ap (λ k. find R k xs) (same_key anti w.0 x.0 t) ∙ once.0 in cc
          | false ↦ λ t. rest
        ] refl

    -- and a key that is found stands at a place
    pub at_found : (ws : List (K × Option V)) (k : K) (row : Option V) → find R k ws ≡ Some row → (p : ℕ) × (slice_get ws p ≡ Some (k, row))
    at_found [] k row e = cc
    at_found (x ∷ xs) k row e = elim (eq_by_cmp R k x.0) as (λ b. eq_by_cmp R k x.0 ≡ b → cond b (Some x.1) (find R k xs) ≡ Some row
        → (p : ℕ) × (slice_get (x ∷ xs) p ≡ Some (k, row))) [
          | true ↦ λ t e. let same : x.1 ≡ row = cc in let key : x.0 ≡ k = sym (same_key anti k x.0 t) in (0, λ i. Some (key i, same i))
          | false ↦ λ t e. let rest = at_found xs k row e in (suc rest.0, rest.1)
        ] refl e
