-- The keys that stand for prefixes.
use Rattle.std.specs.Prelude.{◌≡◌, ◌<◌, ℕ, pos, List, [], ◌∷◌, map, length}
use Rattle.std.specs.FinMap as fin
use Rattle.aria_base.specs.Orders.{key_cmp}
use Rattle.aria_base.specs.declared.keys.Key.{Key}
use Rattle.aria_base.specs.declared.keys.Part.{Part}
use Rattle.aria_base.specs.declared.keys.Part.TheVariants as part
use Rattle.aria_base.specs.declared.limits.TheConstants.{MOST_PARTS}
use Rattle.batch_rules.specs.Touches.{is_among}
use Rattle.range_rules.specs.declared.routines.Prefix.{Prefix}
use Rattle.range_rules.specs.Scans.{key_of, key_or}
use Rattle.range_runs.specs.declared.marks.TheConstants.{NO_TABLE}
use Rattle.range_runs.specs.Indexes.{Listed}

-- the key that stands for a whole table: a prefix has fewer parts, and no table has that number
abbrev pub nought : Part
nought = part.Int (pos 0)

abbrev pub whole_table : ℕ → Key
whole_table t = record { table = NO_TABLE; parts = part.Int (pos t) ∷ nought ∷ nought ∷ nought ∷ nought ∷ [] }

-- the key that stands for a prefix among those that are numbered or looked up
abbrev pub mark_of : Prefix → Key
mark_of p = key_or (whole_table p.table) p

-- of the marks that it has, each is of a prefix of the list, and each prefix of the list has its mark there
abbrev pub HasMarks : List Prefix → Listed → Type 0
HasMarks list marks =
    (p : Prefix) → length p.parts < MOST_PARTS → fin.contains_key marks (mark_of p) ≡ is_among key_cmp (map key_of list) (key_of p)
