-- Lists whose numbers rise: each number stands once, so a look-up by it finds its item.
use Rattle.std.proofs.Common.{◌≡◌, ℕ, ◌<◌, ◌≤◌, List, [], ◌∷◌, ◌++◌, map, Bool, true, false, cond, Some, Option, not, refl, sym, ap, ◌∙◌, inl, inr, arith}
use Rattle.std.specs.Prelude.{◌==◌, slice_index_or}
use Rattle.std.specs.List.{All, AllPairs, Contains, cons_option, filter, filter_map, find, list_any}
use Rattle.std.specs.List.Sorted.{IsPermutation}
use Rattle.std.specs.Option.{unwrap_or}
use Rattle.std.proofs.lemmas.Bool.{eq-eqb, ne_eqb, or_left, or_right, false≢true}
use Rattle.std.proofs.lemmas.List.Elements.{All-nil, All-cons, All-head, All-tail, All-map, All-contains, Contains-get_or, Contains-append_left, Contains-append_cases, filter_passes}
use Rattle.std.proofs.lemmas.List.Folds.{list_any_none}
use Rattle.std.proofs.lemmas.List.Kept.{AllPairs-cons}
use Rattle.std.proofs.lemmas.List.Sorted.{IsPermutation-sym, Contains-permutation}
use Rattle.batch_core.specs.Serial.{RiseWithin}

module _ {X : Type 0} (number : X → ℕ) where
  pub rise-span : (low : ℕ) (xs : List X) (high : ℕ) → RiseWithin number low xs high → low ≤ high
  rise-span low [] high r = r
  rise-span low (x ∷ xs) high r = let own = r.0 in let rest = rise-span (number x) xs high r.1 in omega arith

  rise-from : (lower low : ℕ) (xs : List X) (high : ℕ) → lower ≤ low → RiseWithin number low xs high → RiseWithin number lower xs high
  rise-from lower low [] high h r = omega arith
  rise-from lower low (x ∷ xs) high h r = (let own = r.0 in omega arith, r.1)

  -- each number is above `low`, none is above `high`, and each is below the later ones
  pub rise-above : (low : ℕ) (xs : List X) (high : ℕ) → RiseWithin number low xs high → All (λ x. low < number x) xs
  rise-above low [] high r = All-nil (λ x. low < number x)
  rise-above low (x ∷ xs) high r = All-cons (λ x. low < number x) x xs r.0
      (λ k d below. let own = r.0 in let rest = rise-above (number x) xs high r.1 k d below in omega arith)

  pub rise-below : (low : ℕ) (xs : List X) (high : ℕ) → RiseWithin number low xs high → All (λ x. number x ≤ high) xs
  rise-below low [] high r = All-nil (λ x. number x ≤ high)
  rise-below low (x ∷ xs) high r = All-cons (λ x. number x ≤ high) x xs (rise-span (number x) xs high r.1) (rise-below (number x) xs high r.1)

  pub rise-pairs : (low : ℕ) (xs : List X) (high : ℕ) → RiseWithin number low xs high → AllPairs (λ x y. number x < number y) xs
  rise-pairs low [] high r = λ i j d before below. absurd (omega arith)
  rise-pairs low (x ∷ xs) high r = AllPairs-cons (λ x y. number x < number y) x xs (rise-above (number x) xs high r.1) (rise-pairs (number x) xs high r.1)

  pub rise-append : (low : ℕ) (xs : List X) (middle : ℕ) (ys : List X) (high : ℕ) → RiseWithin number low xs middle → RiseWithin number middle ys high
      → RiseWithin number low (xs ++ ys) high
  rise-append low [] middle ys high r s = rise-from low middle ys high r s
  rise-append low (x ∷ xs) middle ys high r s = (r.0, rise-append (number x) xs middle ys high r.1 s)

  pub rise-filter : (test : X → Bool) (low : ℕ) (xs : List X) (high : ℕ) → RiseWithin number low xs high → RiseWithin number low (filter test xs) high
  rise-filter test low [] high r = r
  rise-filter test low (x ∷ xs) high r = let rest = rise-filter test (number x) xs high r.1 in
      elim (test x) as (λ b. RiseWithin number low (cond b (x ∷ filter test xs) (filter test xs)) high) [
        | true ↦ (r.0, rest)
        | false ↦ rise-from low (number x) (filter test xs) high (let own = r.0 in omega arith) rest
      ]

module _ {X Y : Type 0} (f : X → Y) (name : Y → ℕ) where
  pub rise-unmapped : (low : ℕ) (xs : List X) (high : ℕ) → RiseWithin name low (map f xs) high → RiseWithin (λ x. name (f x)) low xs high
  rise-unmapped low [] high r = r
  rise-unmapped low (x ∷ xs) high r = (r.0, rise-unmapped (name (f x)) xs high r.1)

  -- the look-up of an item's number in the images gives its image
  pub found : (low : ℕ) (xs : List X) (high : ℕ) → RiseWithin (λ x. name (f x)) low xs high
      → All (λ x. find (λ y. name y == name (f x)) (map f xs) ≡ Some (f x)) xs
  found low [] high r = All-nil (λ x. find (λ y. name y == name (f x)) [] ≡ Some (f x))
  found low (x ∷ xs) high r = All-cons (λ z. find (λ y. name y == name (f z)) (f x ∷ map f xs) ≡ Some (f z)) x xs
      (ap (λ b. cond b (Some (f x)) (find (λ y. name y == name (f x)) (map f xs))) (eq-eqb (name (f x)) (name (f x)) refl))
      (λ k d below.
      let z = slice_index_or xs k d in
      let above : name (f x) < name (f z) = rise-above (λ x. name (f x)) (name (f x)) xs high r.1 k d below in
      ap (λ b. cond b (Some (f x)) (find (λ y. name y == name (f z)) (map f xs))) (ne_eqb (name (f x)) (name (f z)) (λ e. omega (arith, above, e)))
      ∙ found (name (f x)) xs high r.1 k d below)

-- where each look-up finds something, so does the list of them
module _ {X Y : Type 0} (look : ℕ → Option Y) (number : X → ℕ) (f : X → Y) where
  pub all_found : (xs : List X) → All (λ x. look (number x) ≡ Some (f x)) xs
      → (map look (map number xs) ≡ map Some (map f xs)) × (filter_map look (map number xs) ≡ map f xs)
  all_found [] a = (refl, refl)
  all_found (x ∷ xs) a =
      let head = All-head (λ x. look (number x) ≡ Some (f x)) x xs a in
      let rest = all_found xs (All-tail (λ x. look (number x) ≡ Some (f x)) x xs a) in
      (λ i. head i ∷ rest.0 i, λ i. cons_option (head i) (rest.1 i))

-- each item's number is among the numbers
all_among : {X : Type 0} (number : X → ℕ) (xs : List X) → All (λ x. list_any (λ q. q == number x) (map number xs) ≡ true) xs
all_among number [] = All-nil (λ x. list_any (λ q. q == number x) [] ≡ true)
all_among number (x ∷ xs) = All-cons (λ y. list_any (λ q. q == number y) (number x ∷ map number xs) ≡ true) x xs
    (or_left _ _ (eq-eqb (number x) (number x) refl)) (λ k d below. or_right _ _ (all_among number xs k d below))

module _ {X : Type 0} (number : X → ℕ) (low : ℕ) (xs : List X) (high : ℕ) (rises : RiseWithin number low xs high) where
  -- items with one number are one
  same : (x y : X) → Contains xs x → Contains xs y → number x ≡ number y → x ≡ y
  same x y in_x in_y e =
      let P : X → Type 0 = λ x. find (λ y. number y == number x) (map (λ x. x) xs) ≡ Some x in
      let all = found (λ x. x) number low xs high rises in
      ap (λ o. unwrap_or o x) (sym (All-contains P xs x all in_x) ∙ ap (λ n. find (λ y. number y == n) (map (λ x. x) xs)) e ∙ All-contains P xs y all in_y)

  -- of a permutation's first part and of what a test leaves: the test leaves the items whose numbers are not in the first part
  module _ (left : X → Bool) (os : List X) (parted : IsPermutation (os ++ filter left xs) xs) (none_left : All (λ x. left x ≡ false) os) where
    by_test : (x : X) → Contains xs x → (b : Bool) → left x ≡ b → list_any (λ q. q == number x) (map number os) ≡ not b
    by_test x within true e = list_any_none (λ q. q == number x) (map number os) (All-map (λ q. (q == number x) ≡ false) number os (λ k d below.
        let y = slice_index_or os k d in
        let there : Contains xs y = Contains-permutation (os ++ filter left xs) xs y parted
        (Contains-append_left os (filter left xs) y (Contains-get_or os k d below)) in
        ne_eqb (number y) (number x) (λ equal. false≢true (sym (none_left k d below) ∙ ap left (same y x there within equal) ∙ e))))
    by_test x within false e =
        elim (Contains-append_cases os (filter left xs) x (Contains-permutation xs (os ++ filter left xs) x (IsPermutation-sym _ _ parted) within)) [
          | inl first ↦ All-contains (λ x. list_any (λ q. q == number x) (map number os) ≡ true) os x (all_among number os) first
          | inr behind ↦ absurd (false≢true (sym e ∙ All-contains (λ x. left x ≡ true) (filter left xs) x (filter_passes left xs) behind))
        ]

    pub rest-is : All (λ x. left x ≡ not (list_any (λ q. q == number x) (map number os))) xs
    rest-is k d below =
        let x = slice_index_or xs k d in
        sym (ap not (by_test x (Contains-get_or xs k d below) (left x) refl) ∙ elim (left x) as (λ b. not (not b) ≡ b) [ true ↦ refl | false ↦ refl ])
