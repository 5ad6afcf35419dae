use Rattle.std.proofs.Common.{◌≡◌, drop, map}
use Rattle.range_runs.specs.Indexes.{with_keys}
use Rattle.range_runs.specs.Marks.{mark_of}
use Rattle.range_marks.proofs.marks.add_all.Given as goal

abbrev pub invariant-loop-prefix : goal.invariant-loop-prefix
invariant-loop-prefix l = with_keys l.scanned (map mark_of (drop l.prefix-index l.prefixes)) ≡ with_keys l.initial.scanned (map mark_of l.prefixes)
