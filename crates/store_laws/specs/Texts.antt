-- A head and a script behind it, as texts.
use Rattle.std.specs.Prelude.{◌≡◌, ◌⊎◌, ℕ, Bool, true, false, List, [], ◌∷◌, ◌++◌, Result, Ok, Err}
use Rattle.script_text.specs.Forms.{said}
use Rattle.script_text.specs.Laws.{lines_of}
use Rattle.script_text.specs.declared.items.Item.{Item}
use Rattle.script_text.specs.declared.items.Item.TheVariants as item
use Rattle.script_text.specs.declared.refusals.RefusalKind.{RefusalKind}

-- the last line of a text is complete: a line feed (10) ends it
abbrev pub EndsLine : List ℕ → Type 0
EndsLine text = (text ≡ []) ⊎ ((front : List ℕ) × (text ≡ front ++ 10 ∷ []))

-- A line that no head has; `rest` is whether the next one is. A skipped line may stand in both.
abbrev pub opens_by : Bool → Result Item RefusalKind → Bool
opens_by rest (Ok item.Skip) = rest
opens_by rest (Ok (item.Catalog name)) = false
opens_by rest (Ok (item.Piece piece)) = false
opens_by rest (Ok (item.Row table parts row)) = false
opens_by rest (Ok (item.Tx proc args)) = true
opens_by rest (Ok (item.End n)) = true
opens_by rest (Ok item.Report) = true
opens_by rest (Ok (item.Settings name percent)) = true
opens_by rest (Err why) = true

abbrev pub opens : List (List ℕ) → Bool
opens [] = true
opens (line ∷ lines) = opens_by (opens lines) (said line)

-- A script for a store has no line of a head before its first call, end or settings: it names no catalogue, goes on with no text of
-- one, and has no row. Behind that line no script may have one.
abbrev pub is_script : List ℕ → Bool
is_script text = opens (lines_of text)
