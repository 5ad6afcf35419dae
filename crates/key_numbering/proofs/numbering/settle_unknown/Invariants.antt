use Rattle.std.proofs.Common.{◌≡◌, drop, length}
use Rattle.key_numbering.specs.Lookups.{settled, shown}
use Rattle.key_numbering.proofs.numbering.settle_unknown.Given as goal

abbrev pub invariant-loop-one : goal.invariant-loop-one
invariant-loop-one l =
    (length l.numbers.items ≡ length l.initial.numbers.items)
    × (settled (l.kept, l.numbers.items) (shown (drop l.one-index l.unknown)) ≡ settled (l.initial.kept, l.initial.numbers.items) (shown l.unknown))
