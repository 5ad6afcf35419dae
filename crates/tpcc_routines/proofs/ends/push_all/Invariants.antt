use Rattle.std.proofs.Common.{◌≡◌, ◌++◌, map, take}
use Rattle.aria_base.specs.declared.values.Value.TheVariants as value
use Rattle.tpcc_routines.proofs.ends.push_all.Given as goal

abbrev pub invariant-loop-number : goal.invariant-loop-number
invariant-loop-number l = l.values.items ≡ l.initial.values.items ++ map value.Int (take l.number-index l.numbers)
