use Rattle.std.proofs.Common.{take}
use Rattle.batch_rules.specs.Touches.{keys_of}
use Rattle.tbl_snapshot.specs.Places.{HasPlaces}
use Rattle.tbl_snapshot.proofs.places.Places.of_writes.Given as goal

abbrev pub invariant-loop-place : goal.invariant-loop-place
invariant-loop-place l = HasPlaces (keys_of (take l.place l.writes)) l.places
