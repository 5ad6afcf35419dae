-- The lines behind a body's catalogue: rows whose keys rise, and then requests that are carried over.
use Rattle.std.specs.Prelude.{◌≡◌, ℕ, ◌-◌, ◌<◌, ◌^◌, Bool, true, false, ◌&&◌, ◌==◌, if◌then◌else◌, List, [], ◌∷◌, ◌++◌, length}
use Rattle.std.specs.Prelude.{slice_index, All, Option, Some, None, option_map}
use Rattle.std.specs.List.{slice_get}
use Rattle.std.specs.Ordering.{is_lt}
use Rattle.aria_base.specs.Orders.{Cells, key_cmp}
use Rattle.aria_base.specs.declared.keys.Key.{Key}
use Rattle.aria_base.specs.declared.calls.Request.{Request}
use Rattle.proc_lang.specs.Catalogs.{Plan}
use Rattle.script_text.specs.Written.{IsParts, IsCells, IsArgs}
use Rattle.image_text.specs.Lines.{taking}
use Rattle.image_text.specs.Exactly.{line_of_row, exact_row, IsRowOf}
use Rattle.image_text.specs.Helds.{line_of_held, exact_held, IsHeldOf}

-- what a line stands for
pub data Entry : Type 0 where
  OfRow : Key × Cells → Entry
  OfHeld : Request → Entry

abbrev pub line_of : Plan → Entry → List ℕ
line_of plan (OfRow row) = line_of_row plan row
line_of plan (OfHeld request) = line_of_held plan request

abbrev pub IsEntryOf : Plan → Entry → Type 0
IsEntryOf plan (OfRow row) = IsRowOf plan row
IsEntryOf plan (OfHeld request) = IsHeldOf plan request

-- by the first byte: an `h` (104) is that of `held`
abbrev pub entry_of : Plan → List ℕ → Option Entry
entry_of plan line = if slice_index line 0 == 104 then option_map OfHeld (exact_held plan line) else option_map OfRow (exact_row plan line)

-- ---- what was taken

pub record Taken : Type 0 where
  pub rows : List (Key × Cells)
  pub held : List Request

abbrev pub nothing : Taken
nothing = record { rows = []; held = [] }

-- the key of the last row
abbrev pub last_key : List (Key × Cells) → Option Key
last_key rows = option_map (λ row. row.0) (slice_get rows (length rows - 1))

abbrev pub is_above : Option Key → Key → Bool
is_above None key = true
is_above (Some last) key = is_lt (key_cmp last key)

-- the rows come first, and their keys rise
abbrev pub push : Taken → Entry → Option Taken
push s (OfRow row) =
    if length s.held == 0 && is_above (last_key s.rows) row.0 then Some (record { rows = s.rows ++ row ∷ []; held = s.held }) else None
push s (OfHeld request) = Some (record { rows = s.rows; held = s.held ++ request ∷ [] })

abbrev pub take : Plan → Taken → List ℕ → Option Taken
take plan s line = taking (entry_of plan) push s line

-- ---- values that there are

pub record IsRowHeld (row : Key × Cells) : Type 0 where
  pub parts : IsParts row.0.parts
  pub cells : IsCells row.1

pub record IsRequestHeld (request : Request) : Type 0 where
  pub number : request.q < 2 ^ 63
  pub args : IsArgs request.call.args

pub record AreHeld (s : Taken) : Type 0 where
  pub rows : All IsRowHeld s.rows
  pub held : All IsRequestHeld s.held
