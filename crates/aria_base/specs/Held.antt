-- The parts of a key where they lie.
use Rattle.std.specs.Prelude.{◌≡◌, ◌≤◌, List, length}
use Rattle.aria_base.specs.declared.keys.Part.{Part}
use Rattle.aria_base.specs.declared.limits.TheConstants.{FEWEST_PARTS, MOST_PARTS}
use Rattle.aria_base.specs.declared.parts.Held.{Held}
use Rattle.aria_base.specs.declared.parts.Held.TheVariants as held

abbrev pub held_parts : Held → List Part
held_parts (held.One xs) = xs
held_parts (held.Two xs) = xs
held_parts (held.More xs) = xs.items

abbrev pub IsHeld : Held → Type 0
IsHeld (held.One xs) = length xs ≡ 1
IsHeld (held.Two xs) = length xs ≡ 2
IsHeld (held.More xs) = (FEWEST_PARTS ≤ length xs.items) × (length xs.items ≤ MOST_PARTS)
