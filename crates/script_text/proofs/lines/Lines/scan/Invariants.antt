use Rattle.std.proofs.Common.{◌≡◌, ◌≤◌, length}
use Rattle.script_text.specs.Lines.{scan, scan_after}
use Rattle.script_text.specs.Runs.{place}
use Rattle.script_text.proofs.lines.Lines.scan.Given as goal

abbrev pub invariant-loop-front : goal.invariant-loop-front
invariant-loop-front l = record {
  scans : scan_after l.lines.items (place l.self l.fresh l.taken l.count) l.rest ≡ scan l.self l.piece;
  within : l.taken ≤ l.self.limit;
  counted : l.count ≤ l.taken;
}

abbrev pub decreases-loop-front : goal.decreases-loop-front
decreases-loop-front l = length l.rest
