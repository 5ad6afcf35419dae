use Rattle.std.proofs.Common.{◌≡◌, ◌++◌, length, map, take, drop}
use Rattle.key_numbering.specs.Lookups.{shown, unknown_in}
use Rattle.key_numbering.specs.Numbers.{number_in}
use Rattle.key_numbering.proofs.lookups.look_up.Given as goal

abbrev pub invariant-loop-key : goal.invariant-loop-key
invariant-loop-key l =
    (l.numbers.items ≡ map (number_in l.kept) (take l.key-index l.keys))
    × (shown l.unknown.items ++ unknown_in l.kept (length l.numbers.items) (drop l.key-index l.keys) ≡ unknown_in l.kept 0 l.keys)
