use Rattle.std.proofs.Common.{◌≡◌, ◌≤◌, ◌+◌, ◌++◌, drop, map}
use Rattle.std.specs.List.{sum_by}
use Rattle.key_numbering.specs.Numbers.{touch_count}
use Rattle.touch_numbers.specs.Listings.{stretches_in}
use Rattle.touch_numbers.specs.Touchings.{sets_of}
use Rattle.touch_numbers.proofs.touches.stretches_of.Given as goal

abbrev pub invariant-loop-one : goal.invariant-loop-one
invariant-loop-one l = record {
  stretches : l.stretches.items ++ stretches_in l.start (map sets_of (drop l.one-index l.list)) ≡ stretches_in 0 (map sets_of l.list);
  few : l.start + sum_by touch_count (map sets_of (drop l.one-index l.list)) ≤ 2560000;
}
