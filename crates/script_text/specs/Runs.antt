-- A run of bytes without a line feed, taken at once.
use Rattle.std.specs.Prelude.{ℕ, Bool, true, false, ◌&&◌, nat_le, nat_lt, if◌then◌else◌, List, [], ◌++◌, Option, Some, None}
use Rattle.script_text.specs.declared.refusals.RefusalKind.{RefusalKind}
use Rattle.script_text.specs.declared.refusals.RefusalKind.TheVariants.{Long, Size}
use Rattle.script_text.specs.Lines.{Feed}

-- which bound is passed first by so many bytes of a line, and by its line feed where that counts in `whole`: the line has room
-- for so many more, and of the text so many are left
abbrev pub first_past : ℕ → ℕ → ℕ → ℕ → Option RefusalKind
first_past room left run whole =
    if nat_lt room run && nat_le room left then Some Long
    else (if nat_lt left whole then Some Size else None)

-- the line feed behind a run, where there is one
abbrev pub counted : Bool → ℕ
counted true = 1
counted false = 0

-- what was begun before, unless a line feed ended it
abbrev pub begun_at : Feed → Bool → List ℕ
begun_at feed fresh = if fresh then [] else feed.begun

abbrev pub place : Feed → Bool → ℕ → ℕ → Feed
place feed fresh taken count = record feed { taken = taken; count = count; begun = begun_at feed fresh }

-- so many bytes were taken, and these of them stand behind the last line feed
abbrev pub with_run : Feed → List ℕ → Feed
with_run feed run = record feed { begun = feed.begun ++ run }
