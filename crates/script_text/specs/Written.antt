-- The one spelling of rows and calls, and what is printed at all.
use Rattle.std.specs.Prelude.{◌≡◌, ℕ, ℤ, ◌≤◌, Bool, true, List, [], ◌++◌, length, All, Option, Some, None, codes}
use Rattle.std.specs.List.{slice_get}
use Rattle.aria_base.specs.Orders.{Cells}
use Rattle.aria_base.specs.Texts.{IsText}
use Rattle.aria_base.specs.declared.limits.TheConstants.{FEWEST_PARTS, MOST_PARTS, MOST_COLUMNS, MOST_ARGS, SHORTEST_TUPLE, LONGEST_TUPLE}
use Rattle.aria_base.specs.declared.keys.Key.{Key}
use Rattle.aria_base.specs.declared.keys.Part.{Part}
use Rattle.aria_base.specs.declared.keys.Part.TheVariants as part
use Rattle.aria_base.specs.declared.values.Value.{Value}
use Rattle.aria_base.specs.declared.values.Value.TheVariants as value
use Rattle.aria_base.specs.declared.calls.Arg.{Arg}
use Rattle.aria_base.specs.declared.calls.Arg.TheVariants as arg
use Rattle.aria_base.specs.declared.calls.Call.{Call}
use Rattle.aria_base.specs.declared.schemas.Table.{Table}
use Rattle.proc_lang.specs.declared.procs.Proc.{Proc}
use Rattle.script_text.specs.Numbers.{is_i64}
use Rattle.script_text.specs.Tokens.{part_token, value_token, arg_token, spaced, same_lengths}

-- the name of the table with this number, from 0, or of the procedure; nothing where there is none
abbrev pub table_name_or : Option Table → List ℕ
table_name_or None = []
table_name_or (Some table) = table.name

abbrev pub table_name : List Table → ℕ → List ℕ
table_name tables number = table_name_or (slice_get tables number)

abbrev pub proc_name_or : Option Proc → List ℕ
proc_name_or None = []
proc_name_or (Some proc) = proc.name

abbrev pub proc_name : List Proc → ℕ → List ℕ
proc_name procs number = proc_name_or (slice_get procs number)

-- a key: its table's name and its parts
abbrev pub key_text : List Table → Key → List ℕ
key_text tables key = table_name tables key.table ++ spaced part_token key.parts

-- lines without their line feed
abbrev pub row_line : List Table → Key → Cells → List ℕ
row_line tables key row = codes "row " ++ key_text tables key ++ codes " =" ++ spaced value_token row

abbrev pub call_line : List Proc → Call → List ℕ
call_line procs call = codes "tx " ++ proc_name procs call.proc ++ spaced arg_token call.args

-- ---- what every value of the Rust types is

abbrev pub IsPart : Part → Type 0
IsPart (part.Int number) = is_i64 number ≡ true
IsPart (part.Text text) = IsText text

abbrev pub IsValue : Value → Type 0
IsValue (value.Int number) = is_i64 number ≡ true
IsValue (value.Text text) = IsText text

abbrev pub IsTuple : List ℤ → Type 0
IsTuple tuple = (SHORTEST_TUPLE ≤ length tuple) × (length tuple ≤ LONGEST_TUPLE) × All (λ z. is_i64 z ≡ true) tuple

abbrev pub IsArg : Arg → Type 0
IsArg (arg.Int number) = is_i64 number ≡ true
IsArg (arg.Text text) = IsText text
IsArg (arg.List tuples) = All IsTuple tuples

-- what those have that fit a procedure: the tuples of a list are of one length
abbrev pub is_alike : Arg → Bool
is_alike (arg.Int number) = true
is_alike (arg.Text text) = true
is_alike (arg.List tuples) = same_lengths tuples

-- the parts of a key, the columns of a row, the arguments of a call
pub record IsParts (parts : List Part) : Type 0 where
  pub some : FEWEST_PARTS ≤ length parts
  pub few : length parts ≤ MOST_PARTS
  pub each : All IsPart parts

pub record IsCells (row : Cells) : Type 0 where
  pub few : length row ≤ MOST_COLUMNS
  pub each : All IsValue row

pub record IsArgs (args : List Arg) : Type 0 where
  pub few : length args ≤ MOST_ARGS
  pub each : All IsArg args
