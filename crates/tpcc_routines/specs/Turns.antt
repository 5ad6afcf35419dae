-- What a part of a routine comes to: it asks for an action, or it goes on by the answers that are left.
use Rattle.std.specs.Prelude.{◌≡◌, ℤ, List}
use Rattle.aria_base.specs.Orders.{Cells}
use Rattle.aria_base.specs.declared.keys.Key.{Key}
use Rattle.range_rules.specs.declared.routines.Seen.{Seen}
use Rattle.range_rules.specs.Walks.{Walk, follow}
use Rattle.tpcc_routines.specs.declared.turns.Turn.{Turn}
use Rattle.tpcc_routines.specs.declared.turns.Turn.TheVariants.{Asks, Goes}
use Rattle.tpcc_routines.specs.declared.turns.Lines.{Lines}
use Rattle.tpcc_routines.specs.declared.turns.Lines.TheVariants as lines

-- of the part that is walked first, with the rest of the walk behind its number
abbrev pub Turns : Walk → (ℤ → Walk) → List Seen → Turn → Type 0
Turns walk next seen (Asks action) = action ≡ follow walk seen
Turns walk next seen (Goes rest value) = follow (next value) rest.now ≡ follow walk seen

-- the same with the rest of the walk behind the lines that it found
abbrev pub TurnsLines : Walk → (List (Key × Cells) → Walk) → List Seen → Lines → Type 0
TurnsLines walk next seen (lines.Asks action) = action ≡ follow walk seen
TurnsLines walk next seen (lines.Goes rest rows) = follow (next rows.now) rest.now ≡ follow walk seen
