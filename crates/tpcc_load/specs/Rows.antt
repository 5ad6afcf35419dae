-- Rows, and how they are laid into a database.
use Rattle.std.specs.Prelude.{ℕ, ℤ, pos, List, [], ◌∷◌, map}
use Rattle.std.specs.FinMap as fin
use Rattle.rand_pcg.specs.Lcg.{Lcg}
use Rattle.aria_base.specs.Orders.{Cells, Database}
use Rattle.aria_base.specs.declared.keys.Key.{Key}
use Rattle.aria_base.specs.declared.keys.Part.TheVariants as part
use Rattle.aria_base.specs.declared.values.Value.TheVariants as value

-- a key and its row
abbrev pub Row : Type 0
Row = Key × Cells

abbrev pub key_of : ℕ → List ℕ → Key
key_of table parts = record { table = table; parts = map (λ n. part.Int (pos n)) parts }

-- a row of whole numbers
abbrev pub row_of : ℕ → List ℕ → List ℤ → Row
row_of table parts columns = (key_of table parts, map value.Int columns)

-- the rows one after the other, each in the place of what stands at its key
abbrev pub laid : Database → List Row → Database
laid rows [] = rows
laid rows (r ∷ rs) = laid (fin.insert rows r.0 r.1) rs

-- rows that were drawn are laid
abbrev pub laid_drawn : Database → List Row × Lcg → Database × Lcg
laid_drawn rows drawn = (laid rows drawn.0, drawn.1)
