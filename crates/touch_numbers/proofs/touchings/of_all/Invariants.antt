use Rattle.std.proofs.Common.{◌≡◌, take, map}
use Rattle.touch_numbers.specs.Touchings.{sets_of}
use Rattle.touch_numbers.proofs.touchings.of_all.Given as goal

abbrev pub invariant-loop-set : goal.invariant-loop-set
invariant-loop-set l = map sets_of l.list.items ≡ take l.set-index l.sets
