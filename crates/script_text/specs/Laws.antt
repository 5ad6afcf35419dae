-- What holds of texts as a whole.
use Rattle.std.specs.Prelude.{◌≡◌, ◌↔◌, ℕ, ◌==◌, IsTrue, if◌then◌else◌, List, [], ◌∷◌, ◌++◌, length, map, option_to_list, None}
use Rattle.std.specs.List.{slice_split}
use Rattle.aria_base.specs.Orders.{Cells}
use Rattle.aria_base.specs.Schemas.{Fits}
use Rattle.aria_base.specs.declared.keys.Key.{Key}
use Rattle.aria_base.specs.declared.schemas.Table.{Table}
use Rattle.script_text.specs.Fits.{row_fits}
use Rattle.script_text.specs.Lines.{Feed, Scan, blank, unreturned, scan, last_line}

-- ---- the lines of a whole text, by its line feeds (10) alone

-- nothing behind the last line feed is no line
abbrev pub filled : List (List ℕ) → List (List ℕ)
filled [] = []
filled (last ∷ []) = if length last == 0 then [] else last ∷ []
filled (line ∷ next ∷ rest) = line ∷ filled (next ∷ rest)

abbrev pub lines_of : List ℕ → List (List ℕ)
lines_of text = map unreturned (filled (slice_split (λ b. b == 10) text))

-- the lines that were completed, and the one behind the last line feed
abbrev pub all_lines : Scan → List (List ℕ)
all_lines s = s.lines ++ option_to_list (last_line s.feed)

-- the lines of a first piece stand in front of those of the next
abbrev pub lead : List (List ℕ) → Scan → Scan
lead front s = record { lines = front ++ s.lines; feed = s.feed; fault = s.fault }

pub record LinesOfTexts : Type 0 where
  -- a text gives the same lines however it is cut: the second piece goes on where the first one ends
  pub cut : (feed : Feed) (a b : List ℕ) → (scan feed a).fault ≡ None
      → scan feed (a ++ b) ≡ lead (scan feed a).lines (scan (scan feed a).feed b)
  -- what follows on a refused byte is not looked at
  pub ends : (feed : Feed) (a b : List ℕ) → ((scan feed a).fault ≡ None → ⊥) → scan feed (a ++ b) ≡ scan feed a
  -- where no byte is past a bound, the lines are those between the line feeds
  pub whole : (limit longest : ℕ) (text : List ℕ) → (scan (blank limit longest) text).fault ≡ None
      → all_lines (scan (blank limit longest) text) ≡ lines_of text

-- the test of what fits a table is the schema's relation
pub record RowsFit : Type 0 where
  pub fits : (tables : List Table) (key : Key) (row : Cells) → IsTrue (row_fits tables key row) ↔ Fits tables key row
