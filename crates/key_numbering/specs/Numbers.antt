-- The numbers of keys.
use Rattle.std.specs.Prelude.{◌≡◌, ◌<◌, ℕ, ◌+◌, List, [], ◌∷◌, length, Some, if◌then◌else◌, unwrap_or}
use Rattle.std.specs.Coded.{Coded, coded_ℕ}
use Rattle.std.specs.FinMap as fin
use Rattle.aria_base.specs.contracts.keys.Key as key
use Rattle.aria_base.specs.Orders.{key_cmp}
use Rattle.aria_base.specs.declared.keys.Key.{Key}
use Rattle.dep_rules.specs.declared.sets.Sets.{Sets}

-- keys with their numbers
abbrev pub Numbers : Type 0
Numbers = fin.FinMap key_cmp ℕ

abbrev pub numbers_code : Coded Numbers
numbers_code = fin.code (key.the_row).coded coded_ℕ

-- the key's number, or 0 where it has none
abbrev pub number_in : Numbers → Key → ℕ
number_in numbers k = unwrap_or (fin.get numbers k) 0

-- a key that has no number gets the next one
abbrev pub with_key : Numbers → Key → Numbers
with_key numbers k = if fin.contains_key numbers k then numbers else fin.insert numbers k (fin.len numbers)

abbrev pub with_keys : Numbers → List Key → Numbers
with_keys numbers [] = numbers
with_keys numbers (k ∷ ks) = with_keys (with_key numbers k) ks

-- the keys of each request get theirs in turn, those that it reads before those that it writes
abbrev pub with_sets : Numbers → List Sets → Numbers
with_sets numbers [] = numbers
with_sets numbers (s ∷ ss) = with_sets (with_keys (with_keys numbers s.reads) s.writes) ss

-- the keys that these requests touch, with their numbers in order of first touch
abbrev pub numbers_of : List Sets → Numbers
numbers_of sets = with_sets fin.empty sets

-- the numbers are those below their count, each of one key
pub record AreNumbers (numbers : Numbers) : Type 0 where
  pub below : (k : Key) (n : ℕ) → fin.get numbers k ≡ Some n → n < fin.len numbers
  pub once : (x y : Key) (n : ℕ) → fin.get numbers x ≡ Some n → fin.get numbers y ≡ Some n → x ≡ y
  pub each : (n : ℕ) → n < fin.len numbers → (k : Key) × (fin.get numbers k ≡ Some n)

-- every key keeps its number
abbrev pub Keeps : Numbers → Numbers → Type 0
Keeps before after = (k : Key) (n : ℕ) → fin.get before k ≡ Some n → fin.get after k ≡ Some n

-- how often the request's sets name a key
abbrev pub touch_count : Sets → ℕ
touch_count s = length s.reads + length s.writes
