-- Rows put into a database where their keys pass a test.
use Rattle.std.specs.Prelude.{Bool, List, [], ◌∷◌, if◌then◌else◌}
use Rattle.std.specs.FinMap as fin
use Rattle.aria_base.specs.Orders.{Cells, Database}
use Rattle.aria_base.specs.declared.keys.Key.{Key}

module _ (is_at : Key → Bool) where
  -- one row
  abbrev pub put_one : Database → Key × Cells → Database
  put_one db row = if is_at row.0 then fin.insert db row.0 row.1 else db

  -- and all of a list. Of a key that stands twice the first row counts
  abbrev pub put_all : Database → List (Key × Cells) → Database
  put_all db [] = db
  put_all db (row ∷ rows) = put_one (put_all db rows) row
