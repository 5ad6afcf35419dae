use Rattle.std.proofs.Common.{◌≡◌, length}
use Rattle.image_text.specs.Lines.{lines_taken}
use Rattle.image_text.proofs.lines.take_lines.Given as goal

abbrev pub invariant-loop-line : goal.invariant-loop-line
invariant-loop-line g l = lines_taken (g.T.LineTaker.taken l.catalog) l.known l.rest ≡ lines_taken (g.T.LineTaker.taken l.catalog) l.fn.taker l.fn.bytes

abbrev pub decreases-loop-line : goal.decreases-loop-line
decreases-loop-line g l = length l.rest
