-- Slots of keys, by numbers: which keys have one, and which slots a request touches.
use Rattle.std.specs.Prelude.{◌≡◌, ℕ, suc, ◌<◌, ◌≤◌, List, [], ◌∷◌, ◌++◌, length, set, Option, Some, None, All, slice_index_or}
use Rattle.aria_base.specs.declared.keys.Key.{Key}
use Rattle.proc_exec.specs.declared.outcomes.Waiting.{Waiting}
use Rattle.work_claim.specs.Rule.{times}

-- by a key's number its slot, if it has one; and the keys of the slots
pub record Slotted : Type 0 where
  pub table : List (Option ℕ)
  pub keys : List Key

abbrev pub slot_in : List (Option ℕ) → ℕ → Option ℕ
slot_in table number = slice_index_or table number None

-- a key with this number gets the next slot where its number has none
abbrev pub with_slot_by : Option ℕ → Slotted → Key → ℕ → Slotted
with_slot_by None s key number = record { table = set s.table number (Some (length s.keys)); keys = s.keys ++ key ∷ [] }
with_slot_by (Some slot) s key number = s

abbrev pub with_slot : Slotted → Key → ℕ → Slotted
with_slot s key number = with_slot_by (slot_in s.table number) s key number

-- so do these keys with their numbers
abbrev pub with_slots : Slotted → List Key → List ℕ → Slotted
with_slots s [] numbers = s
with_slots s (key ∷ keys) [] = s
with_slots s (key ∷ keys) (number ∷ numbers) = with_slots (with_slot s key number) keys numbers

-- and the keys that each request may write
abbrev pub all_with_slots : Slotted → List Waiting → List (List ℕ) → Slotted
all_with_slots s [] lists = s
all_with_slots s (w ∷ ws) [] = s
all_with_slots s (w ∷ ws) (list ∷ lists) = all_with_slots (with_slots s w.declared.writes list) ws lists

-- each list has a number for each key that its request may write
pub record AreAsMany (lists : List (List ℕ)) (waiting : List Waiting) : Type 0 where
  pub each : length lists ≡ length waiting
  pub many : (x : ℕ) (d : Waiting) → x < length waiting → length (slice_index_or lists x []) ≡ length (slice_index_or waiting x d).declared.writes

-- the slots of these numbers are among the touched ones
abbrev pub AllTouched : List (Option ℕ) → List ℕ → List ℕ → Type 0
AllTouched table numbers touched = All (λ n. (k : ℕ) → slot_in table n ≡ Some k → 1 ≤ times k touched) numbers

-- the slots of the first i of these numbers are among the touched ones
abbrev pub TouchedBefore : List (Option ℕ) → List ℕ → ℕ → List ℕ → Type 0
TouchedBefore table numbers i touched = (j k : ℕ) → j < i → slot_in table (slice_index_or numbers j 0) ≡ Some k → 1 ≤ times k touched

-- what was touched is touched still
abbrev pub StayTouched : List ℕ → List ℕ → Type 0
StayTouched before after = (k : ℕ) → 1 ≤ times k before → 1 ≤ times k after

-- a request touches slots that there are, each once, and those of what it declares
pub record IsTouch (table : List (Option ℕ)) (slots : ℕ) (reads writes touched : List ℕ) : Type 0 where
  pub once : (k : ℕ) → times k touched ≤ 1
  pub within : (k : ℕ) → 1 ≤ times k touched → k < slots
  pub reads_touched : AllTouched table reads touched
  pub writes_touched : AllTouched table writes touched

-- the same for each request
pub record AreTouches (table : List (Option ℕ)) (slots : ℕ) (reads writes touches : List (List ℕ)) (count : ℕ) : Type 0 where
  pub each : length touches ≡ count
  pub touch : (x : ℕ) → x < count → IsTouch table slots (slice_index_or reads x []) (slice_index_or writes x []) (slice_index_or touches x [])

-- the stamp stands exactly at the slots that are touched, each once; no greater one stands anywhere
pub record AreStamped (stamp : ℕ) (stamps touched : List ℕ) : Type 0 where
  pub once : (k : ℕ) → times k touched ≤ 1
  pub within : (k : ℕ) → 1 ≤ times k touched → k < length stamps
  pub stamped : (k : ℕ) → 1 ≤ times k touched → slice_index_or stamps k 0 ≡ stamp
  pub others : (k : ℕ) → times k touched ≡ 0 → slice_index_or stamps k 0 < stamp

abbrev pub AreBelow : ℕ → List ℕ → Type 0
AreBelow stamp stamps = (k : ℕ) → slice_index_or stamps k 0 < stamp

-- each slot that the table names is one of so many
abbrev pub AreSlotsOf : ℕ → List (Option ℕ) → Type 0
AreSlotsOf slots table = (n k : ℕ) → slot_in table n ≡ Some k → k < slots
