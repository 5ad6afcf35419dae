use Rattle.std.proofs.Common.{take}
use Rattle.tbl_snapshot.specs.Places.{HasPlaces}
use Rattle.tbl_snapshot.proofs.places.Places.of_keys.Given as goal

abbrev pub invariant-loop-place : goal.invariant-loop-place
invariant-loop-place l = HasPlaces (take l.place l.keys) l.places
