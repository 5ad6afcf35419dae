use Rattle.std.proofs.Common.{◌≡◌, length, drop}
use Rattle.row_batons.specs.Layouts.{all_with_slots}
use Rattle.row_batons.proofs.Layings.{no_slots}
use Rattle.row_batons.proofs.slots.slots_of.Given as goal

abbrev pub invariant-loop-one : goal.invariant-loop-one
invariant-loop-one l =
    (all_with_slots l.slots (drop l.one-index l.waiting) (drop l.one-index l.writes) ≡ all_with_slots (no_slots l.count) l.waiting l.writes)
    × (length l.slots.table ≡ l.count)
    × (l.place ≡ l.one-index)
