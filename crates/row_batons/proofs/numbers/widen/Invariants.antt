use Rattle.std.proofs.Common.{◌≡◌, ◌++◌, drop}
use Rattle.row_batons.proofs.numbers.widen.Given as goal

abbrev pub invariant-loop-number : goal.invariant-loop-number
invariant-loop-number l = l.list.items ++ drop l.number-index l.numbers ≡ l.fn.list.items ++ l.numbers
