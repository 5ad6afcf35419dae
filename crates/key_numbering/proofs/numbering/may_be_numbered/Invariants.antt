use Rattle.std.proofs.Common.{◌≡◌, ◌+◌, ◌-◌, ◌^◌, drop}
use Rattle.std.specs.Prelude.{min}
use Rattle.std.specs.List.{sum_by}
use Rattle.key_numbering.specs.Numbers.{touch_count}
use Rattle.key_numbering.proofs.numbering.may_be_numbered.Given as goal

abbrev pub invariant-loop-set : goal.invariant-loop-set
invariant-loop-set l = min (2 ^ 64 - 1) (l.touched + sum_by touch_count (drop l.set-index l.sets)) ≡ min (2 ^ 64 - 1) (sum_by touch_count l.sets)
