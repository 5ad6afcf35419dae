-- The laws of rules over the views of all seats of a table: what holds of each view, and what a sum over the views becomes where one of them changes, or two.
use Rattle.std.proofs.Common.{◌≡◌, ◌≢◌, ℕ, zero, suc, ◌+◌, ◌≤◌, List, [], ◌∷◌, ◌++◌, get_or, set, sum_by, subst, sym, refl, ap, arith}
use Rattle.std.proofs.lemmas.List.Sums.{sum_by-cons, sum_by_push}
use mathlib.Core.Option.{some, some-injective, some-ne-none}
use lib.ListN.{get_elem?}

-- each element has the property, the list being read as a table's views are
abbrev pub Each : {A : Type 0} → (A → Type 0) → List A → Type 0
Each {A} P xs = (i : ℕ) (x : A) → get_elem? xs i ≡ some x → P x

module _ {A : Type 0} (P : A → Type 0) where
  pub each-set : (xs : List A) (i : ℕ) (y : A) → P y → Each P xs → Each P (set xs i y)
  each-set [] i y has each j x at = each j x at
  each-set (a ∷ xs) zero y has each zero x at = subst P (some-injective y x at) has
  each-set (a ∷ xs) zero y has each (suc j) x at = each (suc j) x at
  each-set (a ∷ xs) (suc i) y has each zero x at = each zero x at
  each-set (a ∷ xs) (suc i) y has each (suc j) x at = each-set xs i y has (λ k. each (suc k)) j x at

  pub each-push : (xs : List A) (y : A) → P y → Each P xs → Each P (xs ++ y ∷ [])
  each-push [] y has each zero x at = subst P (some-injective y x at) has
  each-push [] y has each (suc j) x at = absurd (some-ne-none x (sym at))
  each-push (a ∷ xs) y has each zero x at = each zero x at
  each-push (a ∷ xs) y has each (suc j) x at = each-push xs y has (λ k. each (suc k)) j x at

-- a number read with its place known to be there, and with a default
pub get_or-get_elem : (xs : List ℕ) (i n : ℕ) → get_elem? xs i ≡ some n → get_or xs i 0 ≡ n
get_or-get_elem [] i n at = absurd (some-ne-none n (sym at))
get_or-get_elem (x ∷ xs) zero n at = some-injective x n at
get_or-get_elem (x ∷ xs) (suc i) n at = get_or-get_elem xs i n at

module _ {A : Type 0} (f : A → ℕ) where
  -- one place changes
  pub sum_by-set : (xs : List A) (i : ℕ) (x y : A) → get_elem? xs i ≡ some x → sum_by f (set xs i y) + f x ≡ sum_by f xs + f y
  sum_by-set [] i x y at = absurd (some-ne-none x (sym at))
  sum_by-set (a ∷ xs) zero x y at = let same : f a ≡ f x = ap f (some-injective a x at) in omega (arith, sum_by-cons f a xs, sum_by-cons f y xs)
  sum_by-set (a ∷ xs) (suc i) x y at = let rest = sum_by-set xs i x y at in omega (arith, sum_by-cons f a xs, sum_by-cons f a (set xs i y))

  -- two places change
  pub sum_by-set_two : (xs : List A) (i j : ℕ) (x y v w : A) → get_elem? xs i ≡ some x → get_elem? (set xs i y) j ≡ some v
      → sum_by f (set (set xs i y) j w) + (f x + f v) ≡ sum_by f xs + (f y + f w)
  sum_by-set_two xs i j x y v w at at' = let first = sum_by-set xs i x y at in let second = sum_by-set (set xs i y) j v w at' in omega arith

  -- one place changes, and a new one comes
  pub sum_by-set_push : (xs : List A) (i : ℕ) (x y w : A) → get_elem? xs i ≡ some x → sum_by f (set xs i y ++ w ∷ []) + f x ≡ sum_by f xs + (f y + f w)
  sum_by-set_push xs i x y w at = let first = sum_by-set xs i x y at in let pushed = sum_by_push f (set xs i y) w in omega arith

  pub sum_by-at : (xs : List A) (i : ℕ) (x : A) → get_elem? xs i ≡ some x → f x ≤ sum_by f xs
  sum_by-at [] i x at = absurd (some-ne-none x (sym at))
  sum_by-at (a ∷ xs) zero x at = let same : f a ≡ f x = ap f (some-injective a x at) in omega (arith, sum_by-cons f a xs)
  sum_by-at (a ∷ xs) (suc i) x at = let rest = sum_by-at xs i x at in omega (arith, sum_by-cons f a xs)

  -- two places have no more than the sum, so where one has all of it the other has nothing
  pub sum_by-at_two : (xs : List A) (i j : ℕ) (x y : A) → i ≢ j → get_elem? xs i ≡ some x → get_elem? xs j ≡ some y → f x + f y ≤ sum_by f xs
  sum_by-at_two [] i j x y ne at at' = absurd (some-ne-none x (sym at))
  sum_by-at_two (a ∷ xs) zero zero x y ne at at' = absurd (ne refl)
  sum_by-at_two (a ∷ xs) zero (suc j) x y ne at at' = let same : f a ≡ f x = ap f (some-injective a x at) in let rest = sum_by-at xs j y at' in
      omega (arith, sum_by-cons f a xs)
  sum_by-at_two (a ∷ xs) (suc i) zero x y ne at at' = let same : f a ≡ f y = ap f (some-injective a y at') in let rest = sum_by-at xs i x at in
      omega (arith, sum_by-cons f a xs)
  sum_by-at_two (a ∷ xs) (suc i) (suc j) x y ne at at' = let rest = sum_by-at_two xs i j x y (λ e. ne (ap suc e)) at at' in omega (arith, sum_by-cons f a xs)

-- what is at most so much at each place is so in the sum
module _ {A : Type 0} (f g : A → ℕ) where
  pub sum_by-each : (xs : List A) → Each (λ x. f x ≤ g x) xs → sum_by f xs ≤ sum_by g xs
  sum_by-each [] each = omega arith
  sum_by-each (a ∷ xs) each =
      let here = each 0 a refl in
      let rest = sum_by-each xs (λ i. each (suc i)) in
      omega (arith, sum_by-cons f a xs, sum_by-cons g a xs)

-- where who has no share adds nothing, nobody adds anything to a sum without shares, and who has all shares adds all
module _ {A : Type 0} (share f : A → ℕ) where
  sum_by-none : (xs : List A) → sum_by share xs ≡ 0 → Each (λ y. share y ≡ 0 → f y ≡ 0) xs → sum_by f xs ≡ 0
  sum_by-none [] none idle = refl
  sum_by-none (a ∷ xs) none idle =
      let here : f a ≡ 0 = idle 0 a refl (omega (arith, sum_by-cons share a xs)) in
      let rest = sum_by-none xs (omega (arith, sum_by-cons share a xs)) (λ j. idle (suc j)) in
      omega (arith, sum_by-cons f a xs)

  pub sum_by-alone : (xs : List A) (i : ℕ) (x : A) → get_elem? xs i ≡ some x → sum_by share xs ≡ share x → Each (λ y. share y ≡ 0 → f y ≡ 0) xs
      → sum_by f xs ≡ f x
  sum_by-alone [] i x at alone idle = absurd (some-ne-none x (sym at))
  sum_by-alone (a ∷ xs) zero x at alone idle =
      let same : a ≡ x = some-injective a x at in
      let rest = sum_by-none xs (omega (arith, sum_by-cons share a xs, ap share same)) (λ j. idle (suc j)) in
      omega (arith, sum_by-cons f a xs, ap f same)
  sum_by-alone (a ∷ xs) (suc i) x at alone idle =
      let most = sum_by-at share xs i x at in
      let here : f a ≡ 0 = idle 0 a refl (omega (arith, sum_by-cons share a xs)) in
      let rest = sum_by-alone xs i x at (omega (arith, sum_by-cons share a xs)) (λ j. idle (suc j)) in
      omega (arith, sum_by-cons f a xs)
