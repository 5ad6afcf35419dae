-- What is printed of a finding.
use Rattle.std.specs.Prelude.{ℕ, ◌-◌, ◌==◌, if◌then◌else◌, List, [], ◌++◌, length, codes, decimal, slice_index}

-- a word, and behind it what it tells, where that is not empty
abbrev pub told_line : List ℕ → List ℕ → List ℕ
told_line word told = word ++ (if length told == 0 then [] else codes " " ++ told) ++ codes "\n"

abbrev pub holds_text : List ℕ
holds_text = codes "check holds\n"

abbrev pub fails_text : ℕ → List ℕ → List ℕ → List ℕ
fails_text line wanted found =
    codes "check fails " ++ decimal line ++ codes "\n" ++ told_line (codes "wanted") wanted ++ told_line (codes "found") found

-- the line that ends the batch with this number, from 1, of those that are to be run
abbrev pub line_of : List ℕ → ℕ → ℕ
line_of ends number = slice_index ends (number - 1)
