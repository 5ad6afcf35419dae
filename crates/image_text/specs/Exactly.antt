-- A row or a call read from its line exactly: the line is its one spelling.
use Rattle.std.specs.Prelude.{◌≡◌, ℕ, if◌then◌else◌, List, Option, Some, None, bytes_eq, Result, Ok, Err, true}
use Rattle.aria_base.specs.Orders.{Cells}
use Rattle.aria_base.specs.Schemas.{Fits}
use Rattle.aria_base.specs.declared.keys.Key.{Key}
use Rattle.aria_base.specs.declared.calls.Call.{Call}
use Rattle.proc_lang.specs.Catalogs.{Plan, takes}
use Rattle.script_text.specs.declared.refusals.RefusalKind.{RefusalKind}
use Rattle.script_text.specs.Fits.{row_said, call_said}
use Rattle.script_text.specs.Written.{row_line, call_line, IsParts, IsCells, IsArgs}

-- what was found, where the line is what is written of it
abbrev pub exactly : {X : Type 0} → (X → List ℕ) → List ℕ → Option X → Option X
exactly write line None = None
exactly write line (Some x) = if bytes_eq (write x) line then Some x else None

abbrev pub found : {X : Type 0} → Result X RefusalKind → Option X
found (Ok x) = Some x
found (Err kind) = None

abbrev pub line_of_row : Plan → Key × Cells → List ℕ
line_of_row plan row = row_line plan.tables row.0 row.1

abbrev pub exact_row : Plan → List ℕ → Option (Key × Cells)
exact_row plan line = exactly (line_of_row plan) line (found (row_said plan line))

abbrev pub line_of_call : Plan → Call → List ℕ
line_of_call plan call = call_line plan.procs call

abbrev pub exact_call : Plan → List ℕ → Option Call
exact_call plan line = exactly (line_of_call plan) line (found (call_said plan line))

-- ---- what is written at all

-- a row that fits the catalogue, of values that there are
pub record IsRowOf (plan : Plan) (row : Key × Cells) : Type 0 where
  pub fit : Fits plan.tables row.0 row.1
  pub parts : IsParts row.0.parts
  pub cells : IsCells row.1

-- a call that the catalogue takes, of values that there are
pub record IsCallOf (plan : Plan) (call : Call) : Type 0 where
  pub fit : takes plan call ≡ true
  pub args : IsArgs call.args
