use Rattle.std.proofs.Common.{◌≡◌, ◌+◌, length}
use Rattle.row_batons.specs.Layouts.{AreTouches, AreBelow}
use Rattle.row_batons.proofs.layouts.touches_of.Given as goal

abbrev pub invariant-loop-place : goal.invariant-loop-place
invariant-loop-place l = record {
  touches : AreTouches l.table l.slots l.numbers.reads l.numbers.writes l.touches l.place;
  stamps : AreBelow (l.place + 1) l.stamps.items;
  length : length l.stamps.items ≡ l.slots;
}
