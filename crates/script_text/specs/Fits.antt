-- What a catalogue makes of a line: names are looked up, and what the line brings has to fit in number and kind.
use Rattle.std.specs.Prelude.{ℕ, ℤ, pos, negsuc, Bool, true, false, ◌&&◌, nat_le, if◌then◌else◌, List, [], ◌∷◌, map, position}
use Rattle.std.specs.Prelude.{Option, Some, None, codes, bytes_eq, Result, Ok, Err}
use Rattle.std.specs.List.{slice_get}
use Rattle.aria_base.specs.Kinds.{part_kind, value_kind}
use Rattle.aria_base.specs.Orders.{Cells}
use Rattle.aria_base.specs.declared.keys.Part.{Part}
use Rattle.aria_base.specs.declared.keys.Key.{Key}
use Rattle.aria_base.specs.declared.values.Kind.{Kind}
use Rattle.aria_base.specs.declared.values.Kind.TheVariants as kind
use Rattle.aria_base.specs.declared.calls.Arg.{Arg}
use Rattle.aria_base.specs.declared.calls.Call.{Call}
use Rattle.aria_base.specs.declared.schemas.Table.{Table}
use Rattle.aria_base.specs.declared.limits.TheConstants.{MOST_PERCENT}
use Rattle.proc_lang.specs.Catalogs.{Plan, takes}
use Rattle.script_text.specs.Forms.{said}
use Rattle.script_text.specs.declared.items.Item.{Item}
use Rattle.script_text.specs.declared.items.Item.TheVariants as item
use Rattle.script_text.specs.declared.refusals.RefusalKind.{RefusalKind}
use Rattle.script_text.specs.declared.refusals.RefusalKind.TheVariants.{Word, Name, Argument}

-- ---- rows

abbrev pub is_kind : Kind → Kind → Bool
is_kind kind.Int kind.Int = true
is_kind kind.Text kind.Text = true
is_kind given wanted = false

-- one by one
abbrev pub are_kinds : List Kind → List Kind → Bool
are_kinds [] [] = true
are_kinds (g ∷ given) (w ∷ wanted) = is_kind g w && are_kinds given wanted
are_kinds given wanted = false

abbrev pub fits_table : Key → Cells → Option Table → Bool
fits_table key row None = false
fits_table key row (Some table) = are_kinds (map part_kind key.parts) table.key && are_kinds (map value_kind row) table.cols

-- the table is there, the key has its parts in number and kind, and the row its columns
abbrev pub row_fits : List Table → Key → Cells → Bool
row_fits tables key row = fits_table key row (slice_get tables key.table)

-- the number of the table with this name, or of the procedure
abbrev pub table_named : Plan → List ℕ → Option ℕ
table_named plan name = position (λ t. bytes_eq t.name name) plan.tables

abbrev pub proc_named : Plan → List ℕ → Option ℕ
proc_named plan name = position (λ p. bytes_eq p.name name) plan.procs

abbrev pub row_in : Plan → List Part → Cells → Option ℕ → Result (Key × Cells) RefusalKind
row_in plan parts row None = Err Name
row_in plan parts row (Some table) =
    let key : Key = record { table = table; parts = parts } in
    if row_fits plan.tables key row then Ok (key, row) else Err Argument

-- a row under a catalogue, or why it is refused
abbrev pub placed_row : Plan → List ℕ → List Part → Cells → Result (Key × Cells) RefusalKind
placed_row plan table parts row = row_in plan parts row (table_named plan table)

-- ---- calls

abbrev pub call_of : Plan → List Arg → Option ℕ → Result Call RefusalKind
call_of plan args None = Err Name
call_of plan args (Some proc) =
    let call : Call = record { proc = proc; args = args } in
    if takes plan call then Ok call else Err Argument

-- a call under a catalogue, or why it is refused
abbrev pub placed_call : Plan → List ℕ → List Arg → Result Call RefusalKind
placed_call plan proc args = call_of plan args (proc_named plan proc)

-- ---- settings

abbrev pub rule_named : List ℕ → Option ℕ
rule_named name = if bytes_eq name (codes "plain") then Some 0 else (if bytes_eq name (codes "reorder") then Some 1 else None)

abbrev pub with_percent : ℕ → ℤ → Result (ℕ × ℕ) RefusalKind
with_percent rule (pos n) = if nat_le n MOST_PERCENT then Ok (rule, n) else Err Argument
with_percent rule (negsuc n) = Err Argument

abbrev pub settings_by : Option ℕ → ℤ → Result (ℕ × ℕ) RefusalKind
settings_by None percent = Err Name
settings_by (Some rule) percent = with_percent rule percent

-- the rule's number and the percentage
abbrev pub placed_settings : List ℕ → ℤ → Result (ℕ × ℕ) RefusalKind
placed_settings name percent = settings_by (rule_named name) percent

-- ---- what an item is under a catalogue; of another form it is none

abbrev pub fitted_row : Plan → Item → Result (Key × Cells) RefusalKind
fitted_row plan (item.Row table parts row) = placed_row plan table parts row
fitted_row plan other = Err Word

abbrev pub fitted_call : Plan → Item → Result Call RefusalKind
fitted_call plan (item.Tx proc args) = placed_call plan proc args
fitted_call plan other = Err Word

abbrev pub fitted_settings : Item → Result (ℕ × ℕ) RefusalKind
fitted_settings (item.Settings name percent) = placed_settings name percent
fitted_settings other = Err Word

abbrev pub is_row : Item → Bool
is_row (item.Row table parts row) = true
is_row other = false

abbrev pub is_tx : Item → Bool
is_tx (item.Tx proc args) = true
is_tx other = false

abbrev pub is_settings : Item → Bool
is_settings (item.Settings name percent) = true
is_settings other = false

-- ---- lines under a catalogue

abbrev pub and_then : {A B : Type 0} → (A → Result B RefusalKind) → Result A RefusalKind → Result B RefusalKind
and_then f (Ok x) = f x
and_then f (Err kind) = Err kind

-- the row that a line says, or the call, or why it says none
abbrev pub row_said : Plan → List ℕ → Result (Key × Cells) RefusalKind
row_said plan line = and_then (fitted_row plan) (said line)

abbrev pub call_said : Plan → List ℕ → Result Call RefusalKind
call_said plan line = and_then (fitted_call plan) (said line)
