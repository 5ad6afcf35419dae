use Rattle.std.proofs.Common.{◌≡◌, length}
use Rattle.worked_loads.proofs.orders.call.Given as goal

abbrev pub invariant-loop-number : goal.invariant-loop-number
invariant-loop-number l = length l.args.items ≡ l.number-index
