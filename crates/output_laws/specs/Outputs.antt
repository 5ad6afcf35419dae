-- A script with what `once` printed of it behind it, as `check` reads it.
use Rattle.std.specs.Prelude.{◌≡◌, ℕ, ◌==◌, Bool, true, false, not, if◌then◌else◌, List, [], ◌∷◌, ◌++◌, None, codes}
use Rattle.command_words.specs.declared.settings.Once.{Once}
use Rattle.check_command.specs.Outs as check
use Rattle.check_command.specs.Texts.{holds_text}
use Rattle.run_commands.specs.Outs as once
use Rattle.script_course.specs.Courses.{Out}
use Rattle.script_course.specs.declared.statuses.TheConstants.{DONE, FAILS}
use Rattle.script_text.specs.Laws.{lines_of}
use Rattle.script_text.specs.Lines.{scan}
use Rattle.serial_check.specs.Lines.{end_state_line}

-- bytes stand behind the last line feed (10)
abbrev pub ends_open : List ℕ → Bool
ends_open [] = false
ends_open (b ∷ []) = not (b == 10)
ends_open (b ∷ c ∷ bs) = ends_open (c ∷ bs)

-- a text with a line feed behind its last line, where it has none
abbrev pub ended : List ℕ → List ℕ
ended text = if ends_open text then text ++ codes "\n" else text

-- the script, the line `report`, and what was printed
abbrev pub reported : List ℕ → List ℕ → List ℕ
reported text bytes = ended text ++ codes "report\n" ++ bytes

-- the last line is one that ends a listing
abbrev pub EndsListed : List ℕ → Type 0
EndsListed bytes = (before : List (List ℕ)) × (lines_of bytes ≡ before ++ end_state_line ∷ [])

-- the script with its output is an input of `check`: no byte of it is past a bound
abbrev pub IsInput : List ℕ → List ℕ → Type 0
IsInput text bytes = (scan check.no_line (reported text bytes)).fault ≡ None

-- Where `once` ends well, and the script with its output is an input of `check`, that prints that it holds. Where each answer has a
-- listing, the last line printed has to be one of a listing.
abbrev pub PassesCheck : Once → List ℕ → Type 0
PassesCheck settings text =
    let out : Out = once.out_of settings text in
    out.status ≡ DONE → IsInput text out.bytes
    → (once.is_each settings.listing ≡ true → EndsListed out.bytes)
    → check.out_of (reported text out.bytes) ≡ record { bytes = holds_text; status = DONE }

-- and where it is not one, `check` tells that the report fails
abbrev pub FailsCheck : Once → List ℕ → Type 0
FailsCheck settings text =
    let out : Out = once.out_of settings text in
    out.status ≡ DONE → IsInput text out.bytes
    → once.is_each settings.listing ≡ true → (EndsListed out.bytes → ⊥)
    → (check.out_of (reported text out.bytes)).status ≡ FAILS
