use Rattle.std.proofs.Common.{◌≡◌, take, reverse}
use Rattle.disk_model.specs.Steps.{all_blotted}
use Rattle.disk_model.proofs.tapes.blot_all.Given as goal

abbrev pub invariant-loop-at : goal.invariant-loop-at
invariant-loop-at l = l.content ≡ all_blotted l.fill (reverse (take l.at-index l.loose)) l.initial.content
