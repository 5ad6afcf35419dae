use Rattle.std.proofs.Common.{◌≡◌, take, map}
use Rattle.touch_numbers.specs.Touchings.{sets_of}
use Rattle.touch_numbers.proofs.touchings.copy_all.Given as goal

abbrev pub invariant-loop-one : goal.invariant-loop-one
invariant-loop-one l = l.sets.items ≡ map sets_of (take l.one-index l.list)
