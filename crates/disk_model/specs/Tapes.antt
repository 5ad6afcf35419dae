-- How the calls of a disk in memory are kept: without their bytes, which stand one after another in a list of their own.
use Rattle.std.specs.Prelude.{◌≡◌, ℕ, ◌+◌, ◌≤◌, List, [], ◌∷◌, length, take, drop, reverse}
use Rattle.disk_model.specs.declared.tapes.Entry.{Entry}
use Rattle.disk_model.specs.declared.tapes.Entry.TheVariants as kept
use Rattle.disk_model.specs.Files.{File}
use Rattle.disk_model.specs.Steps.{effect, Step, Idle, Wrote, Missed, Synced}

pub record Calls : Type 0 where
  pub steps : List Step
  -- how many calls there is room for, and how many bytes
  pub calls : ℕ
  pub room : ℕ

-- how many bytes an entry has in the list
abbrev pub entry_bytes : Entry → ℕ
entry_bytes (kept.Wrote file at len) = len
entry_bytes entry = 0

abbrev pub all_bytes : List Entry → ℕ
all_bytes [] = 0
all_bytes (entry ∷ entries) = entry_bytes entry + all_bytes entries

-- the call of an entry whose bytes come first
abbrev pub step_of : Entry → List ℕ → Step
step_of kept.Idle bytes = Idle
step_of (kept.Wrote file at len) bytes = Wrote file at (take len bytes)
step_of (kept.Missed file at len) bytes = Missed file at len
step_of (kept.Synced file) bytes = Synced file

abbrev pub steps_of : List Entry → List ℕ → List Step
steps_of [] bytes = []
steps_of (entry ∷ entries) bytes = step_of entry bytes ∷ steps_of entries (drop (entry_bytes entry) bytes)

-- these are a file's bytes, and the ranges written since its last sync, the first one first
abbrev pub Shows : File → List ℕ → List (ℕ × ℕ) → Type 0
Shows file bytes ranges = (file.seen ≡ bytes) × (file.loose ≡ reverse ranges)

-- what a call makes of a file's bytes and ranges
abbrev pub Makes : Step → ℕ → List ℕ → List (ℕ × ℕ) → List ℕ → List (ℕ × ℕ) → Type 0
Makes step file bytes ranges new_bytes new_ranges = (f : File) → Shows f bytes ranges → Shows (effect step file f) new_bytes new_ranges

-- what holds of the entries and the bytes, with the capacities of their vectors
pub record IsTape (entries : List Entry) (bytes : List ℕ) (entries_capacity bytes_capacity calls room : ℕ) : Type 0 where
  pub whole : all_bytes entries ≡ length bytes
  pub few_calls : length entries ≤ calls
  pub few_bytes : length bytes ≤ room
  pub calls_fit : calls ≤ entries_capacity
  pub bytes_fit : room ≤ bytes_capacity
