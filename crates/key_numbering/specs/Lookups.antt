-- Keys that are looked up among those that have numbers, and the numbers of those that had none.
use Rattle.std.specs.Prelude.{◌≡◌, ◌<◌, ℕ, ◌+◌, List, [], ◌∷◌, ◌++◌, map, length, All, if◌then◌else◌, slice_index_or}
use Rattle.std.specs.FinMap as fin
use lib.ListN.{set}
use Rattle.aria_base.specs.declared.keys.Key.{Key}
use Rattle.dep_rules.specs.declared.sets.Sets.{Sets}
use Rattle.key_numbering.specs.declared.lookups.Found.{Found}
use Rattle.key_numbering.specs.declared.lookups.Looked.{Looked}
use Rattle.key_numbering.specs.declared.lookups.Unknown.{Unknown}
use Rattle.key_numbering.specs.Numbers.{Numbers, number_in, with_key}

-- the keys that have no number, each with its place, of which the first is this one
abbrev pub unknown_in : Numbers → ℕ → List Key → List (ℕ × Key)
unknown_in numbers place [] = []
unknown_in numbers place (k ∷ ks) = if fin.contains_key numbers k then unknown_in numbers (place + 1) ks
    else (place, k) ∷ unknown_in numbers (place + 1) ks

abbrev pub shown : List Unknown → List (ℕ × Key)
shown unknown = map (λ u. (u.place, u.key.now)) unknown

-- the numbers of these keys, 0 where a key has none, and which have none
pub record IsLooked (numbers : Numbers) (keys : List Key) (looked : Looked) : Type 0 where
  pub numbers_are : looked.numbers.items ≡ map (number_in numbers) keys
  pub unknown_are : shown looked.unknown.items ≡ unknown_in numbers 0 keys

pub record IsFound (numbers : Numbers) (sets : Sets) (found : Found) : Type 0 where
  pub reads : IsLooked numbers sets.reads found.reads
  pub writes : IsLooked numbers sets.writes found.writes

-- that is found of the request at the place
abbrev pub IsFoundAt : Numbers → List Sets → ℕ → Found → Type 0
IsFoundAt numbers list place found = (place < length list) × ((d : Sets) → IsFound numbers (slice_index_or list place d) found)

-- ---- the unknown keys of a list get their numbers in turn

-- the keys with numbers so far, and the list
abbrev pub settled : Numbers × List ℕ → List (ℕ × Key) → Numbers × List ℕ
settled state [] = state
settled state (u ∷ us) = settled (with_key state.0 u.1, set state.1 u.0 (number_in (with_key state.0 u.1) u.1)) us

abbrev pub settled_by : Numbers → Looked → Numbers × List ℕ
settled_by numbers looked = settled (numbers, looked.numbers.items) (shown looked.unknown.items)

-- those of requests, one after the other: the keys with numbers so far, and the lists of both sides
abbrev pub Lists : Type 0
Lists = List (List ℕ) × List (List ℕ)

abbrev pub settled_one : Numbers × Lists → Found → Numbers × Lists
settled_one state f =
    let reads = settled_by state.0 f.reads in
    let writes = settled_by reads.0 f.writes in
    (writes.0, (state.1.0 ++ reads.1 ∷ [], state.1.1 ++ writes.1 ∷ []))

abbrev pub settled_all : Numbers × Lists → List Found → Numbers × Lists
settled_all state [] = state
settled_all state (f ∷ fs) = settled_all (settled_one state f) fs

-- the places of unknown keys are places of the list
abbrev pub HasPlaces : Looked → Type 0
HasPlaces looked = All (λ u. u.place < length looked.numbers.items) looked.unknown.items

pub record HasBothPlaces (found : Found) : Type 0 where
  pub reads : HasPlaces found.reads
  pub writes : HasPlaces found.writes
