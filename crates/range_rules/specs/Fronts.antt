-- The first parts of a key, where they lie.
use Rattle.std.specs.Prelude.{◌≡◌, List, [], length}
use Rattle.aria_base.specs.declared.keys.Part.{Part}
use Rattle.range_rules.specs.declared.fronts.Held.{Held}
use Rattle.range_rules.specs.declared.fronts.Held.TheVariants as held

abbrev pub held_parts : Held → List Part
held_parts held.None = []
held_parts (held.One xs) = xs
held_parts (held.Two xs) = xs
held_parts (held.Three xs) = xs
held_parts (held.Four xs) = xs

abbrev pub IsHeld : Held → Type 0
IsHeld held.None = Unit
IsHeld (held.One xs) = length xs ≡ 1
IsHeld (held.Two xs) = length xs ≡ 2
IsHeld (held.Three xs) = length xs ≡ 3
IsHeld (held.Four xs) = length xs ≡ 4
