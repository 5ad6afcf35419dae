use Rattle.std.proofs.Common.{◌≡◌, drop}
use Rattle.tpcc_routines.specs.Routines.{with_lines}
use Rattle.tpcc_routines.proofs.statuses.with_lines.Given as goal

abbrev pub invariant-loop-line : goal.invariant-loop-line
invariant-loop-line l = with_lines l.all.items (drop l.line-index l.lines) ≡ with_lines l.initial.all.items l.lines
