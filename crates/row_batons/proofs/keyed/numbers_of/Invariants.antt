use Rattle.std.proofs.Common.{◌≡◌, ◌++◌, drop}
use Rattle.std.specs.FinMap as fin
use Rattle.row_batons.specs.Numbers.{with_waiting, read_numbers, write_numbers}
use Rattle.row_batons.proofs.keyed.numbers_of.Given as goal

abbrev pub invariant-loop-one : goal.invariant-loop-one
invariant-loop-one l =
    (with_waiting l.keyed (drop l.one-index l.waiting) ≡ with_waiting fin.empty l.waiting)
    × (l.reads ++ read_numbers (with_waiting fin.empty l.waiting) (drop l.one-index l.waiting) ≡ read_numbers (with_waiting fin.empty l.waiting) l.waiting)
    × (l.writes ++ write_numbers (with_waiting fin.empty l.waiting) (drop l.one-index l.waiting) ≡ write_numbers (with_waiting fin.empty l.waiting) l.waiting)
