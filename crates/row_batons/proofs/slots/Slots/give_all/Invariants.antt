use Rattle.std.proofs.Common.{◌≡◌, length, drop}
use Rattle.row_batons.specs.Layouts.{with_slots}
use Rattle.row_batons.proofs.slots.Slots.give_all.Given as goal

abbrev pub invariant-loop-key : goal.invariant-loop-key
invariant-loop-key l =
    (with_slots l.self (drop l.key-index l.keys) (drop l.key-index l.numbers) ≡ with_slots l.fn.self l.keys l.numbers)
    × (length l.self.table ≡ length l.fn.self.table)
    × (l.index ≡ l.key-index)
