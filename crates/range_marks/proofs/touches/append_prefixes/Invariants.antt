use Rattle.std.proofs.Common.{◌≡◌, ◌++◌, drop, map}
use Rattle.range_runs.specs.Marks.{mark_of}
use Rattle.range_marks.proofs.touches.append_prefixes.Given as goal

abbrev pub invariant-loop-prefix : goal.invariant-loop-prefix
invariant-loop-prefix l = l.keys.items ++ map mark_of (drop l.prefix-index l.prefixes) ≡ l.initial.keys.items ++ map mark_of l.prefixes
