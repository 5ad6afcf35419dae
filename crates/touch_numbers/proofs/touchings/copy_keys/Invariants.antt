use Rattle.std.proofs.Common.{◌≡◌, take}
use Rattle.touch_numbers.specs.Slots.{shown}
use Rattle.touch_numbers.proofs.touchings.copy_keys.Given as goal

abbrev pub invariant-loop-key : goal.invariant-loop-key
invariant-loop-key l = l.copies.items ≡ shown (take l.key-index l.keys)
