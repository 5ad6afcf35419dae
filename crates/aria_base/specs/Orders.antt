-- The order of keys, and the database as a finite map in it.
use Rattle.std.specs.Prelude.{List}
use Rattle.std.specs.declared.cmp.Ordering.{Ordering}
use Rattle.std.specs.declared.cmp.Ordering.TheVariants.{Less, Greater}
use Rattle.std.specs.Ordering.{nat_cmp, int_cmp, ordering_then}
use Rattle.std.specs.Cmp.Lexicographic.{slice_cmp}
use Rattle.std.specs.FinMap as fin
use Rattle.aria_base.specs.declared.keys.Part.{Part}
use Rattle.aria_base.specs.declared.keys.Part.TheVariants as part
use Rattle.aria_base.specs.declared.keys.Key.{Key}
use Rattle.aria_base.specs.declared.values.Value.{Value}

-- every number is less than every text; texts are compared byte by byte
abbrev pub part_cmp : Part → Part → Ordering
part_cmp (part.Int x) (part.Int y) = int_cmp x y
part_cmp (part.Int x) (part.Text y) = Less
part_cmp (part.Text x) (part.Int y) = Greater
part_cmp (part.Text x) (part.Text y) = slice_cmp nat_cmp x y

-- by table, then by the parts from the left; a prefix of a list comes before it
abbrev pub key_cmp : Key → Key → Ordering
key_cmp a b = ordering_then (nat_cmp a.table b.table) (slice_cmp part_cmp a.parts b.parts)

-- a row as contracts see it
abbrev pub Cells : Type 0
Cells = List Value

-- a database: a finite map from keys to rows
abbrev pub Database : Type 0
Database = fin.FinMap key_cmp Cells
