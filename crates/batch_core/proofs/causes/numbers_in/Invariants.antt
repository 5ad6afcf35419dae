use Rattle.std.proofs.Common.{◌≡◌, map, take}
use Rattle.batch_core.specs.Steps.{number_in}
use Rattle.batch_core.proofs.causes.numbers_in.Given as goal

abbrev pub invariant-loop-tid : goal.invariant-loop-tid
invariant-loop-tid l = l.order.items ≡ map (number_in l.numbers) (take l.tid-index l.tids)
