-- The lines of a listing.
use Rattle.std.specs.Prelude.{ℕ, List, ◌++◌, codes, flat_map}
use Rattle.std.specs.FinMap.{entries}
use Rattle.aria_base.specs.Orders.{Cells, Database}
use Rattle.aria_base.specs.declared.keys.Key.{Key}
use Rattle.aria_base.specs.declared.schemas.Table.{Table}
use Rattle.script_text.specs.Written.{row_line}
use Rattle.answer_text.specs.Notices.{counted}

abbrev pub row_text : List Table → (Key × Cells) → List ℕ
row_text tables row = row_line tables row.0 row.1 ++ codes "\n"

-- all rows in the order of their keys, after so many batches
abbrev pub state_text : List Table → Database → ℕ → List ℕ
state_text tables rows batches =
    counted (codes "state ") batches
    ++ flat_map (row_text tables) (entries rows)
    ++ codes "end state\n"
