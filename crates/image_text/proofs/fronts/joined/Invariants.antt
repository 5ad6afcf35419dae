use Rattle.std.proofs.Common.{◌≡◌, false, length}
use Rattle.image_text.specs.Fronts.{joined_from, joined}
use Rattle.image_text.proofs.fronts.joined.Given as goal

abbrev pub invariant-loop-line : goal.invariant-loop-line
invariant-loop-line l = joined_from l.text.items false l.rest ≡ joined l.fn.bytes

abbrev pub decreases-loop-line : goal.decreases-loop-line
decreases-loop-line l = length l.rest
