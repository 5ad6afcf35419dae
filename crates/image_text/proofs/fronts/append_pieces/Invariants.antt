use Rattle.std.proofs.Common.{◌≡◌, ◌++◌, length}
use Rattle.image_text.specs.Fronts.{pieces_text}
use Rattle.image_text.proofs.fronts.append_pieces.Given as goal

abbrev pub invariant-loop-rest : goal.invariant-loop-rest
invariant-loop-rest l = l.out.items ++ pieces_text l.rest ≡ l.initial.out.items ++ pieces_text l.text

abbrev pub decreases-loop-rest : goal.decreases-loop-rest
decreases-loop-rest l = length l.rest
