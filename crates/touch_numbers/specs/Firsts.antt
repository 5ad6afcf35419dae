-- Numbers in order of first touch, put in the place of touches that stand for keys.
use Rattle.std.specs.Prelude.{◌≡◌, ℕ, suc, List, map, Option, None, Some, slice_get, get_or, if◌then◌else◌, ◌==◌}
use Rattle.std.specs.List.{sum_by}
use Rattle.std.specs.FinMap as fin
use Rattle.aria_base.specs.declared.keys.Key.{Key}
use Rattle.key_numbering.specs.Numbers.{Numbers, Keeps, number_in, with_key, with_keys}
use Rattle.touch_numbers.specs.Listings.{ArePlaces}

-- a number from 1, or 0 for none
abbrev pub from_one : Option ℕ → ℕ
from_one None = 0
from_one (Some n) = suc n

-- how many touches have no number
abbrev pub free_in : List ℕ → ℕ
free_in given = sum_by (λ n. if n == 0 then 1 else 0) given

-- at the place of each key's touch stands the number that the key has in the map, which has so many keys
pub record HasNumbers (keys : List Key) (place : Key → ℕ) (m : Numbers) (given : List ℕ) (count : ℕ) : Type 0 where
  pub count_is : count ≡ fin.len m
  pub given_are : (k : Key) → slice_get keys (place k) ≡ Some k → get_or given (place k) 0 ≡ from_one (fin.get m k)

module _ (given : List ℕ) (count : ℕ) (given_after : List ℕ) (count_after : ℕ) where
  -- the number is that of the key for which the touch stands, which has got the next one if it had none
  abbrev pub NumbersOne : ℕ → ℕ → Type 0
  NumbersOne touch n = (keys : List Key) (place : Key → ℕ) (m : Numbers) (k : Key) → place k ≡ touch → slice_get keys touch ≡ Some k
      → HasNumbers keys place m given count → HasNumbers keys place (with_key m k) given_after count_after × (n ≡ number_in (with_key m k) k)

  -- the numbers are those of the keys for which the touches stand, as every map has them that keeps their numbers
  abbrev pub NumbersAll : List ℕ → List ℕ → Type 0
  NumbersAll touches numbers = (keys : List Key) (place : Key → ℕ) (m final : Numbers) (ks : List Key) → ArePlaces keys place ks → map place ks ≡ touches
      → Keeps (with_keys m ks) final → HasNumbers keys place m given count
      → HasNumbers keys place (with_keys m ks) given_after count_after × (map (number_in final) ks ≡ numbers)
