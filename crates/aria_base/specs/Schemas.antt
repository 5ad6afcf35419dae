-- Which keys and rows a schema takes.
use Rattle.std.specs.Prelude.{◌≡◌, List, Some, map}
use Rattle.std.specs.Option.{IsSomeAnd}
use Rattle.std.specs.List.{slice_get}
use Rattle.std.specs.FinMap as fin
use Rattle.aria_base.specs.Kinds.{value_kind, part_kind}
use Rattle.aria_base.specs.Orders.{Cells, Database}
use Rattle.aria_base.specs.declared.values.Value.{Value}
use Rattle.aria_base.specs.declared.keys.Key.{Key}
use Rattle.aria_base.specs.declared.schemas.Table.{Table}

-- the table is there, the key has its parts in number and kind, and the row its columns
abbrev pub Fits : List Table → Key → List Value → Type 0
Fits schema key row = IsSomeAnd (slice_get schema key.table)
    (λ table. (map part_kind key.parts ≡ table.key) × (map value_kind row ≡ table.cols))

-- each row of the database fits
abbrev pub IsConsistent : List Table → Database → Type 0
IsConsistent schema db = (key : Key) (row : Cells) → fin.get db key ≡ Some row → Fits schema key row
