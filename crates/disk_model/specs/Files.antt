-- One file of a disk: what a read gives, what is stable, and what a stop may leave of it.
use Rattle.std.specs.Prelude.{◌≡◌, ℕ, ◌+◌, ◌<◌, ◌≤◌, max, List, [], ◌∷◌, ◌++◌, length, take, drop, slice_index, Bool, false, ◌||◌}
use Rattle.std.specs.Prelude.{◌&&◌, nat_le, nat_lt}

pub record File : Type 0 where
  -- what a read gives
  pub seen : List ℕ
  -- what a read gave after the last sync
  pub synced : List ℕ
  -- the ranges written since then, each by its offset and its length
  pub loose : List (ℕ × ℕ)

-- a file that nobody wrote to since its last sync
abbrev pub untouched : List ℕ → File
untouched bytes = record { seen = bytes; synced = bytes; loose = [] }

-- whether the place lies in one of the ranges
abbrev pub covers : List (ℕ × ℕ) → ℕ → Bool
covers [] place = false
covers (range ∷ ranges) place = nat_le range.0 place && nat_lt place (range.0 + range.1) || covers ranges place

-- A stop may leave this of the file. Each range written since the last sync, and what lies behind the end that the file
-- had then, holds any bytes. Every other byte is as it was then.
pub record IsImage (file : File) (image : List ℕ) : Type 0 where
  pub long : length file.synced ≤ length image
  pub short : file.loose ≡ [] → length image ≤ length file.synced
  pub stays : (place : ℕ) → place < length file.synced → covers file.loose place ≡ false
      → slice_index image place ≡ slice_index file.synced place

-- these bytes in the place of what stood there, or behind the end
abbrev pub put : List ℕ → ℕ → List ℕ → List ℕ
put old at bytes = take at old ++ bytes ++ drop (at + length bytes) old

-- one more range that holds any bytes in an image
abbrev pub loosened : ℕ → ℕ → File → File
loosened at len file = record { seen = file.seen; synced = file.synced; loose = (at, len) ∷ file.loose }

-- after a write
abbrev pub wrote : ℕ → List ℕ → File → File
wrote at bytes file = record { seen = put file.seen at bytes; synced = file.synced; loose = (at, length bytes) ∷ file.loose }

-- after a sync
abbrev pub settled : File → File
settled file = untouched file.seen

-- what a read gives after a write that failed: anything in its range, and the same elsewhere
pub record Torn (at len : ℕ) (old new : List ℕ) : Type 0 where
  pub before : take at new ≡ take at old
  pub after : drop (at + len) new ≡ drop (at + len) old
  pub no_shorter : length old ≤ length new
  pub no_longer : length new ≤ max (length old) (at + len)

-- after a write that failed, of a file that the disk tells
pub record Lost (at len : ℕ) (old new : File) : Type 0 where
  pub seen : Torn at len old.seen new.seen
  pub synced : new.synced ≡ old.synced
  pub loose : new.loose ≡ (at, len) ∷ old.loose
