-- What consistent tables of order entry may answer. Their keys are whole numbers, and so are their columns, but for one text of a customer.
use Rattle.std.specs.Prelude.{ℕ, ◌+◌, ◌==◌, ◌&&◌, ℤ, int_lt, Bool, true, false, List, [], ◌∷◌, map, length, take, drop, Option, Some, None}
use Rattle.std.specs.List.{list_all}
use Rattle.aria_base.specs.Orders.{Cells}
use Rattle.aria_base.specs.declared.keys.Key.{Key}
use Rattle.aria_base.specs.declared.keys.Part.{Part}
use Rattle.aria_base.specs.declared.keys.Part.TheVariants as part
use Rattle.aria_base.specs.declared.values.Value.{Value}
use Rattle.aria_base.specs.declared.values.Value.TheVariants as value
use Rattle.range_rules.specs.declared.routines.Prefix.{Prefix}
use Rattle.range_rules.specs.Scans.{is_under}
use Rattle.tpcc_audit.specs.Facts.{part_at}

abbrev pub key_at : ℕ → List ℤ → Key
key_at table numbers = record { table = table; parts = map part.Int numbers }

abbrev pub prefix_at : ℕ → List ℤ → Prefix
prefix_at table numbers = record { table = table; parts = map part.Int numbers }

-- ---- one row

abbrev pub is_number : Value → Bool
is_number (value.Int n) = true
is_number (value.Text bytes) = false

abbrev pub is_text : Value → Bool
is_text (value.Int n) = false
is_text (value.Text bytes) = true

-- so many columns, all numbers
abbrev pub are_numbers : ℕ → Cells → Bool
are_numbers columns row = (length row == columns) && list_all is_number row

-- seven numbers and a text
abbrev pub is_customer : Cells → Bool
is_customer row = (length row == 8) && (list_all is_number (take 7 row) && list_all is_text (drop 7 row))

-- ---- rows that a scan finds

abbrev pub is_number_part : Part → Bool
is_number_part (part.Int n) = true
is_number_part (part.Text bytes) = false

-- the number that a key has behind a prefix
abbrev pub last_of : Prefix → Key → ℤ
last_of p k = part_at k.parts (length p.parts)

-- a row under the prefix: its key has one number more, and it has so many columns
abbrev pub is_row_under : Prefix → ℕ → Key → Cells → Bool
is_row_under p columns k row =
    is_under p k && ((length k.parts == length p.parts + 1) && (list_all is_number_part k.parts && are_numbers columns row))

abbrev pub is_behind : Option ℤ → ℤ → Bool
is_behind None n = true
is_behind (Some before) n = int_lt before n

-- such rows in the order of their keys, all of them behind the one of this number
abbrev pub are_rows_behind : Prefix → ℕ → Option ℤ → List (Key × Cells) → Bool
are_rows_behind p columns before [] = true
are_rows_behind p columns before (e ∷ es) =
    (is_row_under p columns e.0 e.1 && is_behind before (last_of p e.0)) && are_rows_behind p columns (Some (last_of p e.0)) es

abbrev pub are_rows : Prefix → ℕ → List (Key × Cells) → Bool
are_rows p columns rows = are_rows_behind p columns None rows
