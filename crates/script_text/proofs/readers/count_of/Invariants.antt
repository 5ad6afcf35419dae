use Rattle.std.proofs.Common.{◌≤◌}
use Rattle.script_text.proofs.readers.count_of.Given as goal

abbrev pub invariant-loop-other : goal.invariant-loop-other
invariant-loop-other l = l.count ≤ l.other-index
