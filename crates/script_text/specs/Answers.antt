-- What an answer tells of what a line says.
use Rattle.std.specs.Prelude.{◌≡◌, ℕ, Option, Some, Result, Ok, Err}
use Rattle.script_text.specs.declared.refusals.RefusalKind.{RefusalKind}
use Rattle.script_text.specs.declared.refusals.Refusal.{Refusal}
use Rattle.script_text.specs.declared.refusals.LinesRefused.{LinesRefused}
use Rattle.script_text.specs.declared.refusals.LinesRefused.TheVariants.{Memory, Line}

-- the answer is what the line with this number says, or why it is refused; out of memory says nothing
abbrev pub Answers : {A : Type 0} → Result A RefusalKind → ℕ → Result A LinesRefused → Type 0
Answers said line (Ok found) = said ≡ Ok found
Answers said line (Err Memory) = Unit {0}
Answers said line (Err (Line refusal)) = (refusal.line ≡ line) × (said ≡ Err refusal.kind)

abbrev pub refused : ℕ → RefusalKind → LinesRefused
refused line kind = Line (record { line = line; kind = kind })

-- the refusal of a piece is this fault; out of memory says nothing
abbrev pub IsRefusedBy : Option Refusal → LinesRefused → Type 0
IsRefusedBy fault Memory = Unit {0}
IsRefusedBy fault (Line refusal) = fault ≡ Some refusal
