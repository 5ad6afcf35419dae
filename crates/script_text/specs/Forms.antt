-- The kinds of line: what each says, or that it says nothing.
use Rattle.std.specs.Prelude.{ℕ, ℤ, pos, Bool, ◌&&◌, ◌==◌, nat_le, if◌then◌else◌, List, [], ◌∷◌, ◌++◌, length, Option, Some, None}
use Rattle.std.specs.Prelude.{option_and_then, option_map, ok_or, codes, bytes_eq, Result, Err}
use Rattle.std.specs.List.{list_all}
use Rattle.aria_base.specs.Texts.{is_word}
use Rattle.aria_base.specs.declared.limits.TheConstants.{FEWEST_PARTS, MOST_PARTS, MOST_COLUMNS, MOST_ARGS}
use Rattle.aria_base.specs.declared.keys.Part.{Part}
use Rattle.aria_base.specs.declared.values.Value.{Value}
use Rattle.aria_base.specs.declared.calls.Arg.{Arg}
use Rattle.script_text.specs.Cuts.{tokens}
use Rattle.script_text.specs.Numbers.{number_of}
use Rattle.script_text.specs.Tokens.{all_of, part_of, value_of, arg_of}
use Rattle.script_text.specs.declared.items.Item.{Item}
use Rattle.script_text.specs.declared.items.Item.TheVariants as item
use Rattle.script_text.specs.declared.refusals.RefusalKind.{RefusalKind}
use Rattle.script_text.specs.declared.refusals.RefusalKind.TheVariants.{Byte, Word}

-- the one token
abbrev pub only : List (List ℕ) → Option (List ℕ)
only (token ∷ []) = Some token
only others = None

abbrev pub word_of : List ℕ → Option (List ℕ)
word_of token = if is_word token then Some token else None

-- `catalog NAME`
abbrev pub catalog_of : List (List ℕ) → Option Item
catalog_of rest = option_map item.Catalog (option_and_then word_of (only rest))

-- `row TABLE k1 .. = c1 ..`: one to five parts before the sign, at most 16 values behind it
abbrev pub with_row : List ℕ → List Part → Option (List Value) → Option Item
with_row table parts None = None
with_row table parts (Some values) =
    if nat_le FEWEST_PARTS (length parts) && nat_le (length parts) MOST_PARTS && nat_le (length values) MOST_COLUMNS
    then Some (item.Row table parts values) else None

abbrev pub row_after : List ℕ → List Part → List (List ℕ) → Option Item
row_after table parts [] = None
row_after table parts (token ∷ rest) =
    if bytes_eq token (codes "=") then with_row table parts (all_of value_of rest)
    else option_and_then (λ part. row_after table (parts ++ part ∷ []) rest) (part_of token)

abbrev pub row_of : List (List ℕ) → Option Item
row_of [] = None
row_of (table ∷ rest) = if is_word table then row_after table [] rest else None

-- `tx PROC a1 ..`: at most 16 arguments
abbrev pub with_tx : List ℕ → Option (List Arg) → Option Item
with_tx proc None = None
with_tx proc (Some args) = if nat_le (length args) MOST_ARGS then Some (item.Tx proc args) else None

abbrev pub tx_of : List (List ℕ) → Option Item
tx_of [] = None
tx_of (proc ∷ rest) = if is_word proc then with_tx proc (all_of arg_of rest) else None

-- `end N`: N is at least 1
abbrev pub with_end : Option ℤ → Option Item
with_end (Some (pos n)) = if n == 0 then None else Some (item.End n)
with_end others = None

abbrev pub end_of : List (List ℕ) → Option Item
end_of rest = with_end (option_and_then number_of (only rest))

-- `settings NAME P`
abbrev pub settings_of : List (List ℕ) → Option Item
settings_of [] = None
settings_of (name ∷ rest) = if is_word name then option_map (item.Settings name) (option_and_then number_of (only rest)) else None

-- `report`
abbrev pub report_of : List (List ℕ) → Option Item
report_of [] = Some item.Report
report_of others = None

-- a list of tokens, by the first
abbrev pub item_of : List (List ℕ) → Option Item
item_of [] = None
item_of (kind ∷ rest) =
    if bytes_eq kind (codes "tx") then tx_of rest
    else (if bytes_eq kind (codes "row") then row_of rest
    else (if bytes_eq kind (codes "end") then end_of rest
    else (if bytes_eq kind (codes "settings") then settings_of rest
    else (if bytes_eq kind (codes "catalog") then catalog_of rest
    else (if bytes_eq kind (codes "report") then report_of rest
    else None)))))

-- a line without bytes, of spaces (32) alone, or that begins with `#` (35) is skipped; `:` (58) begins a piece; no other line
-- begins with a space
abbrev pub line_item : List ℕ → Option Item
line_item [] = Some item.Skip
line_item (b ∷ bs) =
    if b == 35 then Some item.Skip
    else (if b == 58 then Some (item.Piece bs)
    else (if b == 32 then (if list_all (λ c. c == 32) bs then Some item.Skip else None)
    else item_of (tokens (b ∷ bs))))

-- every byte of a line is from 32 to 126
abbrev pub is_printed : List ℕ → Bool
is_printed line = list_all (λ b. nat_le 32 b && nat_le b 126) line

-- what a line says, or why it is refused
abbrev pub said : List ℕ → Result Item RefusalKind
said line = if is_printed line then ok_or (line_item line) Word else Err Byte
