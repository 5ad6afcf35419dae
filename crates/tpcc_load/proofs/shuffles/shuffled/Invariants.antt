use Rattle.std.proofs.Common.{◌≡◌, length}
use Rattle.std.specs.List.{range_with_len}
use Rattle.tpcc_load.proofs.shuffles.shuffled.Given as goal

abbrev pub invariant-loop-place : goal.invariant-loop-place
invariant-loop-place l = (l.places.items ≡ range_with_len 1 l.place) × (length l.places.items ≡ l.place)
