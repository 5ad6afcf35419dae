use Rattle.std.proofs.Common.{◌≡◌, ◌++◌, map, drop}
use Rattle.key_numbering.specs.Numbers.{number_in, with_keys}
use Rattle.row_batons.proofs.keyed.Keyed.append.Given as goal

abbrev pub invariant-loop-key : goal.invariant-loop-key
invariant-loop-key l =
    (with_keys l.self (drop l.key-index l.keys) ≡ with_keys l.fn.self l.keys)
    × (l.list.items ++ map (number_in (with_keys l.fn.self l.keys)) (drop l.key-index l.keys) ≡ l.fn.list.items ++ map
    (number_in (with_keys l.fn.self l.keys)) l.keys)
