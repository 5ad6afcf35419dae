-- Lists that no lemma of the library speaks of.
use Rattle.std.proofs.Common.{◌≡◌, ◌+◌, ℕ, List, [], ◌∷◌, ◌++◌, map, reverse, Bool, true, false, cond, Some, refl, ap, ◌∙◌}
use mathlib.Core.List.{reverse_aux}
use Rattle.std.specs.List.{All, filter, position_from}
use Rattle.std.proofs.lemmas.List.Elements.{All-nil, All-cons, All-head, All-tail}

-- a filter's items pass its test
module _ {X : Type 0} (test : X → Bool) (P : X → Type 0) where
  pub All-filtered : (xs : List X) → All (λ x. test x ≡ true → P x) xs → All P (filter test xs)
  All-filtered [] a = All-nil P
  All-filtered (x ∷ xs) a =
      let rest = All-filtered xs (All-tail (λ x. test x ≡ true → P x) x xs a) in
      elim (test x) as (λ b. (b ≡ true → P x) → All P (cond b (x ∷ filter test xs) (filter test xs))) [
        | true ↦ λ h. All-cons P x (filter test xs) (h refl) rest
        | false ↦ λ h. rest
      ] (All-head (λ x. test x ≡ true → P x) x xs a)

pub All-unmapped : {X Y : Type 0} (P : Y → Type 0) (f : X → Y) (xs : List X) → All P (map f xs) → All (λ x. P (f x)) xs
All-unmapped P f [] a = All-nil (λ x. P (f x))
All-unmapped P f (x ∷ xs) a = All-cons (λ x. P (f x)) x xs (All-head P (f x) (map f xs) a) (All-unmapped P f xs (All-tail P (f x) (map f xs) a))

-- two functions that agree on a list's items
pub map_same : {X Y : Type 0} (f g : X → Y) (xs : List X) → All (λ x. f x ≡ g x) xs → map f xs ≡ map g xs
map_same f g [] a = refl
map_same f g (x ∷ xs) a = λ i. All-head (λ x. f x ≡ g x) x xs a i ∷ map_same f g xs (All-tail (λ x. f x ≡ g x) x xs a) i

-- a test of images
pub position_from-map : {X Y : Type 0} (holds : Y → Bool) (f : X → Y) (i : ℕ) (xs : List X)
    → position_from holds i (map f xs) ≡ position_from (λ x. holds (f x)) i xs
position_from-map holds f i [] = refl
position_from-map holds f i (x ∷ xs) = ap (cond (holds (f x)) (Some i)) (position_from-map holds f (i + 1) xs)

-- what a filter keeps of a list and of its image, where it treats them alike
pub filter-map : {X Y : Type 0} (f : X → Y) (p : X → Bool) (q : Y → Bool) (xs : List X) → All (λ x. p x ≡ q (f x)) xs
    → map f (filter p xs) ≡ filter q (map f xs)
filter-map f p q [] a = refl
filter-map f p q (x ∷ xs) a =
    let rest = filter-map f p q xs (All-tail (λ x. p x ≡ q (f x)) x xs a) in
    elim (p x) as (λ b. map f (cond b (x ∷ filter p xs) (filter p xs)) ≡ cond b (f x ∷ filter q (map f xs)) (filter q (map f xs))) [
      | true ↦ ap (λ ys. f x ∷ ys) rest
      | false ↦ rest
    ] ∙ ap (λ b. cond b (f x ∷ filter q (map f xs)) (filter q (map f xs))) (All-head (λ x. p x ≡ q (f x)) x xs a)

-- the prefix of a list
pub All-left : {X : Type 0} (P : X → Type 0) (xs ys : List X) → All P (xs ++ ys) → All P xs
All-left P [] ys a = All-nil P
All-left P (x ∷ xs) ys a = All-cons P x xs (All-head P x (xs ++ ys) a) (All-left P xs ys (All-tail P x (xs ++ ys) a))

map-reverse_aux : {X Y : Type 0} (f : X → Y) (xs ys : List X) → map f (reverse_aux xs ys) ≡ reverse_aux (map f xs) (map f ys)
map-reverse_aux f [] ys = refl
map-reverse_aux f (x ∷ xs) ys = map-reverse_aux f xs (x ∷ ys)

pub map-reverse : {X Y : Type 0} (f : X → Y) (xs : List X) → map f (reverse xs) ≡ reverse (map f xs)
map-reverse f xs = map-reverse_aux f xs []
