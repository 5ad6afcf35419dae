-- Where the keys under a prefix begin.
use Rattle.std.specs.Prelude.{ℕ, List, [], ◌∷◌, Bool, false}
use Rattle.std.specs.Ordering.{is_le}
use Rattle.aria_base.specs.Orders.{part_cmp}
use Rattle.aria_base.specs.declared.keys.Key.{Key}
use Rattle.aria_base.specs.declared.keys.Part.{Part}
use Rattle.aria_base.specs.declared.keys.Part.TheVariants as part
use Rattle.range_runs.specs.declared.leasts.TheConstants.{LEAST_NUMBER}

abbrev pub least_part : Part
least_part = part.Int LEAST_NUMBER

-- no key of the table is before this one
abbrev pub first_key : ℕ → Key
first_key t = record { table = t; parts = least_part ∷ [] }

-- parts that a key can have: there are some, and the first is not before the least number
abbrev pub can_be : List Part → Bool
can_be [] = false
can_be (x ∷ xs) = is_le (part_cmp least_part x)
