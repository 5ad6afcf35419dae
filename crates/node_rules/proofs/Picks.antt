-- Lists of messages: what is picked of them, what is new among them, and what holds of all of them.
use Rattle.std.proofs.Common.{◌≡◌, ℕ, zero, suc, ◌+◌, ◌-◌, ◌<◌, ◌≤◌, ◌⊎◌, inl, inr, List, [], ◌∷◌, ◌++◌, map, length, Bool, true, false, Some, None, Option}
use Rattle.std.proofs.Common.{refl, sym, ap, ◌∙◌, arith, Contains}
use Rattle.std.specs.Prelude.{slice_get, is_some, ◌==◌, filter_map, flat_map}
use Rattle.std.specs.List.{All, list_all, enumerate_from, range_with_len, cons_option}
use Rattle.std.proofs.lemmas.Bool.{eqb-true, eqb-false, and_parts, and_from, false≢true}
use Rattle.std.proofs.lemmas.List.Elements.{All-nil, All-cons, All-head, All-tail, All-append}
use Rattle.node_rules.specs.Messages.{pick}

pub some_is : {Y : Type 0} (r : Option Y) → is_some r ≡ true → (y : Y) × (r ≡ Some y)
some_is None e = absurd (false≢true e)
some_is (Some y) e = (y, refl)

module _ {X Y : Type 0} where
  pub pick_all : (f : X → Option Y) (P : Y → Type 0) (xs : List X) → All (λ x. (y : Y) → f x ≡ Some y → P y) xs → (y : Y) → pick f xs ≡ Some y → P y
  pick_all f P [] a y e = cc
  pick_all f P (x ∷ xs) a y e = elim (f x) as (λ r. f x ≡ r → (elim r [ None ↦ pick f xs | Some y ↦ Some y ]) ≡ Some y → P y) [
    | None ↦ λ t e. pick_all f P xs (All-tail (λ x. (y : Y) → f x ≡ Some y → P y) x xs a) y e
    | Some z ↦ λ t e. All-head (λ x. (y : Y) → f x ≡ Some y → P y) x xs a y (t ∙ e)
  ] refl e

  pub pick_has : (f : X → Option Y) (xs : List X) (x : X) → Contains xs x → is_some (f x) ≡ true → is_some (pick f xs) ≡ true
  pick_has f [] x (k, below, e) has = absurd (omega arith)
  pick_has f (z ∷ zs) x (zero, below, e) has = elim (f z) as (λ r. is_some r ≡ true → is_some (elim r [ None ↦ pick f zs | Some y ↦ Some y ]) ≡ true) [
    | None ↦ λ h. absurd (false≢true h)
    | Some y ↦ λ h. refl
  ] (ap (λ x. is_some (f x)) e ∙ has)
  pick_has f (z ∷ zs) x (suc k, below, e) has = elim (f z) as (λ r. is_some (elim r [ None ↦ pick f zs | Some y ↦ Some y ]) ≡ true) [
    | None ↦ pick_has f zs x (k, omega arith, e) has
    | Some y ↦ refl
  ]

  pub pick_more : (f : X → Option Y) (xs ys : List X) → is_some (pick f xs) ≡ true → is_some (pick f (xs ++ ys)) ≡ true
  pick_more f [] ys e = absurd (false≢true e)
  pick_more f (x ∷ xs) ys e = elim (f x) as (λ r. is_some (elim r [ None ↦ pick f xs | Some y ↦ Some y ]) ≡ true
      → is_some (elim r [ None ↦ pick f (xs ++ ys) | Some y ↦ Some y ]) ≡ true) [
        | None ↦ pick_more f xs ys
        | Some y ↦ λ h. refl
      ] e

  pub All-flat_map : (P : Y → Type 0) (f : X → List Y) (xs : List X) → All (λ x. All P (f x)) xs → All P (flat_map f xs)
  All-flat_map P f [] a = All-nil P
  All-flat_map P f (x ∷ xs) a = All-append P (f x) (flat_map f xs) (All-head (λ x. All P (f x)) x xs a)
      (All-flat_map P f xs (All-tail (λ x. All P (f x)) x xs a))

  pub All-filter_map : (P : Y → Type 0) (h : X → Option Y) (xs : List X) → All (λ x. (y : Y) → h x ≡ Some y → P y) xs → All P (filter_map h xs)
  All-filter_map P h [] a = All-nil P
  All-filter_map P h (x ∷ xs) a =
      let rest = All-filter_map P h xs (All-tail (λ x. (y : Y) → h x ≡ Some y → P y) x xs a) in
      elim (h x) as (λ r. ((y : Y) → r ≡ Some y → P y) → All P (cons_option r (filter_map h xs))) [
        | None ↦ λ f. rest
        | Some y ↦ λ f. All-cons P y (filter_map h xs) (f y refl) rest
      ] (All-head (λ x. (y : Y) → h x ≡ Some y → P y) x xs a)

  pub has_mapped : (f : X → Y) (xs : List X) (x : X) → Contains xs x → Contains (map f xs) (f x)
  has_mapped f [] x (k, below, e) = absurd (omega arith)
  has_mapped f (z ∷ zs) x (zero, below, e) = (zero, omega arith, ap f e)
  has_mapped f (z ∷ zs) x (suc k, below, e) = let rest = has_mapped f zs x (k, omega arith, e) in let lt = rest.1 in (suc rest.0, omega arith, rest.2)

module _ {X : Type 0} where
  pub has_head : (x : X) (xs : List X) → Contains (x ∷ xs) x
  has_head x xs = (zero, omega arith, refl)

  pub has_behind : (x : X) (xs : List X) (y : X) → Contains xs y → Contains (x ∷ xs) y
  has_behind x xs y (k, below, e) = (suc k, omega arith, e)

  pub has_cases : (x : X) (xs : List X) (y : X) → Contains (x ∷ xs) y → (x ≡ y) ⊎ Contains xs y
  has_cases x xs y (zero, below, e) = inl e
  has_cases x xs y (suc k, below, e) = inr (k, omega arith, e)

  pub list_all-all : (p : X → Bool) (xs : List X) → list_all p xs ≡ true → All (λ x. p x ≡ true) xs
  list_all-all p [] e = All-nil (λ x. p x ≡ true)
  list_all-all p (x ∷ xs) e = let parts = and_parts _ _ e in All-cons (λ x. p x ≡ true) x xs parts.0 (list_all-all p xs parts.1)

  pub list_all-from : (p : X → Bool) (xs : List X) → All (λ x. p x ≡ true) xs → list_all p xs ≡ true
  list_all-from p [] a = refl
  list_all-from p (x ∷ xs) a = and_from _ _ (All-head (λ x. p x ≡ true) x xs a) (list_all-from p xs (All-tail (λ x. p x ≡ true) x xs a))

  -- items with their places
  abbrev pub StandsAt : ℕ → List X → ℕ × X → Type 0
  StandsAt i xs e = (i ≤ e.0) × (slice_get xs (e.0 - i) ≡ Some e.1)

  stands_later : (i : ℕ) (x : X) (xs : List X) (e : ℕ × X) → StandsAt (i + 1) xs e → StandsAt i (x ∷ xs) e
  stands_later i x xs e s =
      let low = s.0 in
      let at : suc (e.0 - (i + 1)) ≡ e.0 - i = omega arith in
      (omega arith, ap (slice_get (x ∷ xs)) (sym at) ∙ s.1)

  pub enumerated : (i : ℕ) (xs : List X) → All (StandsAt i xs) (enumerate_from i xs)
  enumerated i [] = All-nil (StandsAt i [])
  enumerated i (x ∷ xs) =
      let here : zero ≡ i - i = omega arith in
      All-cons (StandsAt i (x ∷ xs)) (i, x) (enumerate_from (i + 1) xs) (omega arith, ap (slice_get (x ∷ xs)) (sym here))
      (λ k d below. stands_later i x xs _ (enumerated (i + 1) xs k d below))

  pub get_below : (xs : List X) (m : ℕ) (x : X) → slice_get xs m ≡ Some x → m < length xs
  get_below [] m x e = cc
  get_below (y ∷ ys) zero x e = omega arith
  get_below (y ∷ ys) (suc m) x e = let lt = get_below ys m x e in omega arith

  pub get_above : (xs : List X) (m : ℕ) → m < length xs → (x : X) × (slice_get xs m ≡ Some x)
  get_above [] m lt = absurd (omega arith)
  get_above (y ∷ ys) zero lt = (y, refl)
  get_above (y ∷ ys) (suc m) lt = get_above ys m (omega arith)

pub in_range : (a n : ℕ) → All (λ t. (a ≤ t) × (t < a + n)) (range_with_len a n)
in_range a zero = All-nil (λ t. (a ≤ t) × (t < a + zero))
in_range a (suc n) = All-cons (λ t. (a ≤ t) × (t < a + suc n)) a (range_with_len (a + 1) n) (omega arith, omega arith)
    (λ k d below. let rest = in_range (a + 1) n k d below in let low = rest.0 in let high = rest.1 in (omega arith, omega arith))

pub has_number : (a n t : ℕ) → a ≤ t → t < a + n → Contains (range_with_len a n) t
has_number a zero t low high = absurd (omega arith)
has_number a (suc n) t low high = elim (a == t) as (λ b. (a == t) ≡ b → Contains (range_with_len a (suc n)) t) [
  | true ↦ λ e. (zero, omega arith, eqb-true a t e)
  | false ↦ λ e. has_behind a (range_with_len (a + 1) n) t (has_number (a + 1) n t (let off = eqb-false a t e in omega arith) (omega arith))
] refl
