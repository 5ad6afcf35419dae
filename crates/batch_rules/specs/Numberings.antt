-- Numbers in the place of keys.
use Rattle.std.specs.Prelude.{◌≡◌, ℕ, List, ◌∷◌, map, true}
use Rattle.std.specs.declared.cmp.Ordering.{Ordering}
use Rattle.std.specs.List.{All, position_or_len}
use Rattle.std.specs.Ordering.{eq_by_cmp, nat_cmp}
use Rattle.batch_rules.specs.declared.verdicts.Rule.{Rule}
use Rattle.batch_rules.specs.Touches.{is_among}
use Rattle.batch_rules.specs.Verdicts.{verdict}

module _ {K : Type 0} (R : K → K → Ordering) (keys : List K) where
  -- two of these keys have the same number exactly where the order finds them equal
  abbrev pub IsOneToOneOn : (K → ℕ) → Type 0
  IsOneToOneOn number = (x y : K) → is_among R keys x ≡ true → is_among R keys y ≡ true
      → eq_by_cmp nat_cmp (number x) (number y) ≡ eq_by_cmp R x y

  -- the keys that each of these requests has on this side are among them
  abbrev pub HasKeysOf : {S : Type 0} → (S → List K) → List S → Type 0
  HasKeysOf side requests = All (λ s. All (λ k. is_among R keys k ≡ true) (side s)) requests

  -- a key's number by its first place in the list
  abbrev pub place_in : K → ℕ
  place_in k = position_or_len (eq_by_cmp R k) keys

-- the verdict by the numbers of the touched keys is the verdict by the keys
abbrev pub NumbersDecide : {K S : Type 0} (R : K → K → Ordering) (keys : List K) (number : K → ℕ)
    (reads writes : S → List K) → List S → S → Rule → Type 0
NumbersDecide R keys number reads writes earlier me rule = IsOneToOneOn R keys number
    → HasKeysOf R keys reads (me ∷ earlier) → HasKeysOf R keys writes (me ∷ earlier)
    → verdict nat_cmp (λ s. map number (reads s)) (λ s. map number (writes s)) rule earlier me ≡ verdict R reads writes rule earlier me
