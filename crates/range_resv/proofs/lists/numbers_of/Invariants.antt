use Rattle.std.proofs.Common.{◌≡◌, map, take}
use Rattle.range_resv.proofs.lists.numbers_of.Given as goal

abbrev pub invariant-loop-work : goal.invariant-loop-work
invariant-loop-work l = l.numbers.items ≡ map (λ w. w.q) (take l.work-index l.list)
