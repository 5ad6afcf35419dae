use Rattle.std.proofs.Common.{◌≡◌, length}
use Rattle.row_batons.specs.Layouts.{AreStamped, StayTouched, TouchedBefore}
use Rattle.row_batons.proofs.layouts.touch_all.Given as goal

abbrev pub invariant-loop-number : goal.invariant-loop-number
invariant-loop-number l = record {
  length : length l.stamps.items ≡ length l.fn.stamps.items;
  stamped : AreStamped l.stamp l.stamps.items l.touched.items;
  kept : StayTouched l.fn.touched.items l.touched.items;
  so_far : TouchedBefore l.table l.numbers l.number-index l.touched.items;
}
