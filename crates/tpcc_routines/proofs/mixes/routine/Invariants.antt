use Rattle.std.proofs.Common.{◌≡◌, take}
use Rattle.tpcc_routines.proofs.mixes.routine.Given as goal

abbrev pub invariant-loop-number : goal.invariant-loop-number
invariant-loop-number l = l.nums.items ≡ take l.number-index l.numbers
