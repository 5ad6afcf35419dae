use Rattle.std.proofs.Common.{drop}
use Rattle.std.specs.Prelude.{◌↔◌}
use Rattle.slot_images.proofs.Carried.{Rise}
use Rattle.slot_images.proofs.images.rise_within.Given as goal

abbrev pub invariant-loop-request : goal.invariant-loop-request
invariant-loop-request l = Rise l.low (drop l.request-index l.held) l.high ↔ Rise 0 l.held l.high
