use Rattle.std.proofs.Common.{◌≡◌}
use Rattle.tpcc_load.specs.Draws.{over}
use Rattle.tpcc_load.specs.Requests.{line_at}
use Rattle.tpcc_load.proofs.requests.lines.Given as goal

abbrev pub invariant-loop-line : goal.invariant-loop-line
invariant-loop-line l = (l.lines.items ≡ (over l.line (line_at l.settings l.start) l.initial.draws).0)
    × (l.draws ≡ (over l.line (line_at l.settings l.start) l.initial.draws).1)
