use Rattle.std.proofs.Common.{◌≡◌, map, take, pos}
use Rattle.aria_base.specs.declared.calls.Arg.TheVariants as arg
use Rattle.tpcc_load.proofs.payments.numbers.Given as goal

abbrev pub invariant-loop-number : goal.invariant-loop-number
invariant-loop-number l = l.args.items ≡ map (λ n. arg.Int (pos n)) (take l.number-index l.first)
