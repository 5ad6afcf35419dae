use Rattle.std.proofs.Common.{◌≡◌, map, take}
use Rattle.batch_engine.specs.Lists.{sets_in}
use Rattle.touch_numbers.specs.Touchings.{sets_of}
use Rattle.batch_engine.proofs.lists.touched_by.Given as goal

abbrev pub invariant-loop-outcome : goal.invariant-loop-outcome
invariant-loop-outcome l = map sets_of l.list.items ≡ map sets_in (take l.outcome-index l.outcomes)
