use Rattle.std.proofs.Common.{◌≡◌, ◌++◌}
use Rattle.range_marks.specs.Marks.{fronts_below}
use Rattle.range_marks.proofs.marks.add_marks.Given as goal

abbrev pub invariant-loop-count : goal.invariant-loop-count
invariant-loop-count l = l.marks.items ≡ l.initial.marks.items ++ fronts_below l.scanned l.key l.count
