-- A disk in memory: the four files that it began with, and all calls since.
use Rattle.std.specs.Prelude.{◌≡◌, ℕ, ◌+◌, ◌<◌, ◌≤◌, ◌==◌, List, [], ◌∷◌, ◌++◌, length, take, slice_index_or, if◌then◌else◌, Bool}
use Rattle.std.specs.Prelude.{not, ◌&&◌, nat_le, nat_lt, Some}
use Rattle.std.specs.List.{list_any}
use Rattle.aria_base.specs.Faults.{one_more}
use Rattle.disk_model.specs.Files.{File, untouched}
use Rattle.disk_model.specs.Histories.{History}
use Rattle.disk_model.specs.Contents.{RoomyBytes, no_bytes}
use Rattle.disk_model.specs.Steps.{Step, after, written, left_of}
use Rattle.disk_model.specs.Tapes.{Calls}

pub record Recorded : Type 0 where
  pub start : List (List ℕ)
  -- all calls that were counted
  pub steps : List Step
  -- how many calls it counts, and how many bytes it writes, in all
  pub calls : ℕ
  pub room : ℕ
  -- the numbers of the calls that fail, from 1
  pub fails : List ℕ
  pub faults : ℕ

-- a file after so many calls
abbrev pub file_after : ℕ → Recorded → ℕ → File
file_after calls disk file = after (take calls disk.steps) file (untouched (slice_index_or disk.start file []))

-- a file after all calls
abbrev pub file_now : Recorded → ℕ → File
file_now disk file = after disk.steps file (untouched (slice_index_or disk.start file []))

-- each call is a moment
abbrev pub history_of : Recorded → History
history_of disk = record { now = length disk.steps; file_at = λ calls file. Some (file_after calls disk file); faults = disk.faults }

-- whether the next call is counted
abbrev pub counts : Recorded → Bool
counts disk = nat_lt (length disk.steps) disk.calls

-- whether the next call succeeds, where it writes so many bytes
abbrev pub passes : Recorded → ℕ → Bool
passes disk len = counts disk && not (list_any (λ number. number == length disk.steps + 1) disk.fails)
    && nat_le (written disk.steps + len) disk.room

-- with one call more
abbrev pub noted : Step → Recorded → Recorded
noted step disk = record disk { steps = disk.steps ++ step ∷ [] }

-- with one call more that failed, where it is counted, and one fault more
abbrev pub refused : Step → Recorded → Recorded
refused missed disk = record disk { steps = if counts disk then disk.steps ++ missed ∷ [] else disk.steps; faults = one_more disk.faults }

-- after the next call of so many bytes, by what it is where it succeeds and where it fails
abbrev pub called : ℕ → Step → Step → Recorded → Recorded
called len done missed disk = if passes disk len then noted done disk else refused missed disk

-- the disk that a stop after so many calls leaves, by which bytes come through
abbrev pub left_disk : Bool → ℕ → ℕ → Recorded → Recorded
left_disk kept fill calls disk =
    let left : ℕ → List ℕ = λ file. left_of kept fill (file_after calls disk file) in
    record { start = left 0 ∷ left 1 ∷ left 2 ∷ left 3 ∷ []; steps = []; calls = disk.calls; room = disk.room; fails = []; faults = 0 }

-- what holds of the parts of a disk in memory: each file reads as the calls left it, and has room for what may still be
-- written
pub record IsDisk (start : List (List ℕ)) (files : List RoomyBytes) (tape : Calls) : Type 0 where
  pub starts : length start ≡ 4
  pub four : length files ≡ 4
  pub reads : (file : ℕ) → file < 4 → (slice_index_or files file no_bytes).bytes
      ≡ (after tape.steps file (untouched (slice_index_or start file []))).seen
  pub spare : (file : ℕ) → file < 4 → tape.room ≤ (slice_index_or files file no_bytes).spare + written tape.steps

-- the first so many copies, each with the bytes of its file and room for more
pub record AreCopies (files : List (List ℕ)) (room : ℕ) (copies : List RoomyBytes) (count : ℕ) : Type 0 where
  pub many : length copies ≡ count
  pub same : (file : ℕ) → file < count → (slice_index_or copies file no_bytes).bytes ≡ slice_index_or files file []
  pub spare : (file : ℕ) → file < count → room ≤ (slice_index_or copies file no_bytes).spare
