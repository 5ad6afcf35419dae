-- What calls do to one file, one after another.
use Rattle.std.specs.Prelude.{ℕ, ◌+◌, ◌-◌, ◌==◌, min, List, [], ◌∷◌, ◌++◌, length, take, drop, replicate, if◌then◌else◌, Bool}
use Rattle.disk_model.specs.Files.{File, wrote, loosened, settled}

-- a call of a disk
pub data Step : Type 0 where
  -- one that changes nothing
  Idle : Step
  -- a write to a file at an offset
  Wrote : ℕ → ℕ → List ℕ → Step
  -- a write to a file at an offset that failed, of so many bytes
  Missed : ℕ → ℕ → ℕ → Step
  -- a sync of a file
  Synced : ℕ → Step

-- what one call does to a file
abbrev pub effect : Step → ℕ → File → File
effect Idle file f = f
effect (Wrote of at bytes) file f = if of == file then wrote at bytes f else f
effect (Missed of at len) file f = if of == file then loosened at len f else f
effect (Synced of) file f = if of == file then settled f else f

-- what calls do to a file, the first one first
abbrev pub after : List Step → ℕ → File → File
after [] file f = f
after (step ∷ steps) file f = after steps file (effect step file f)

-- a call after which each file reads as before
abbrev pub IsQuiet : Step → Type 0
IsQuiet (Wrote of at bytes) = ⊥
IsQuiet step = Unit {0}

-- how many bytes were written
abbrev pub step_bytes : Step → ℕ
step_bytes (Wrote of at bytes) = length bytes
step_bytes step = 0

abbrev pub written : List Step → ℕ
written [] = 0
written (step ∷ steps) = step_bytes step + written steps

-- the bytes of a range that lie in a list, all the same
abbrev pub blotted : ℕ → ℕ × ℕ → List ℕ → List ℕ
blotted fill range bytes = take range.0 bytes ++ replicate (min range.1 (length bytes - range.0)) fill ++ drop (range.0 + range.1) bytes

-- the bytes of all these ranges that lie in a list, all the same
abbrev pub all_blotted : ℕ → List (ℕ × ℕ) → List ℕ → List ℕ
all_blotted fill [] bytes = bytes
all_blotted fill (range ∷ ranges) bytes = blotted fill range (all_blotted fill ranges bytes)

-- An image of a file: what was written since the last sync has come through, or one byte stands in its place.
abbrev pub left_of : Bool → ℕ → File → List ℕ
left_of kept fill file = if kept then file.seen else all_blotted fill file.loose file.seen
