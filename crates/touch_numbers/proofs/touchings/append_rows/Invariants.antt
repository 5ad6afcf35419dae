use Rattle.std.proofs.Common.{◌≡◌, ◌++◌, take}
use Rattle.batch_rules.specs.Touches.{keys_of}
use Rattle.touch_numbers.specs.Slots.{shown}
use Rattle.touch_numbers.proofs.touchings.append_rows.Given as goal

abbrev pub invariant-loop-row : goal.invariant-loop-row
invariant-loop-row l = shown l.keys.items ≡ shown l.initial.keys.items ++ keys_of (take l.row-index l.rows)
