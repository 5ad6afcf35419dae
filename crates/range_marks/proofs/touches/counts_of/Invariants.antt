use Rattle.std.proofs.Common.{◌≡◌, map, length, take}
use Rattle.range_marks.proofs.touches.counts_of.Given as goal

abbrev pub invariant-loop-ran : goal.invariant-loop-ran
invariant-loop-ran l = l.counts.items ≡ map (λ ran. length ran.writes) (take l.ran-index l.rans)
