use Rattle.std.proofs.Common.{◌≡◌, ◌++◌, drop}
use Rattle.batch_rules.specs.Touches.{keys_of}
use Rattle.range_marks.specs.Marks.{marks_on}
use Rattle.range_marks.proofs.marks.marks_on.Given as goal

abbrev pub invariant-loop-key : goal.invariant-loop-key
invariant-loop-key l = l.marks.items ++ marks_on l.scanned (keys_of (drop l.key-index l.writes)) ≡ marks_on l.scanned (keys_of l.writes)
