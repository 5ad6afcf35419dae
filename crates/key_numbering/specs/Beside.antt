-- Numbers that are kept in two places.
use Rattle.std.specs.Prelude.{◌≡◌, ◌++◌, None, IsSome}
use Rattle.std.specs.FinMap as fin
use Rattle.aria_base.specs.declared.keys.Key.{Key}
use Rattle.key_numbering.specs.Numbers.{Numbers}

-- two maps as one
abbrev pub beside : Numbers → Numbers → Numbers
beside near far = fin.from_entries (fin.entries near ++ fin.entries far)

-- the second has no number of a key that has one in the first
abbrev pub IsApart : Numbers → Numbers → Type 0
IsApart near far = (q : Key) → IsSome (fin.get near q) → fin.get far q ≡ None
