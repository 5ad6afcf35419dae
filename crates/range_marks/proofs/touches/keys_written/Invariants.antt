use Rattle.std.proofs.Common.{◌≡◌, take}
use Rattle.batch_rules.specs.Touches.{keys_of}
use Rattle.range_marks.proofs.touches.keys_written.Given as goal

abbrev pub invariant-loop-write : goal.invariant-loop-write
invariant-loop-write l = l.keys.items ≡ keys_of (take l.write-index l.writes)
