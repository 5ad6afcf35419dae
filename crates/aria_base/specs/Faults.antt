-- Counts of faults. A count never falls, and stays at its last value once it is there.
use Rattle.std.specs.Prelude.{◌≡◌, ℕ, ◌<◌, ◌+◌, ◌-◌, ◌^◌, ◌⊎◌, min}

-- the last value of a count of faults
abbrev pub last_count : ℕ
last_count = 2 ^ 64 - 1

-- a count that went up, or that stands at its last value and can go no further
abbrev pub Rose : ℕ → ℕ → Type 0
Rose old new = (old < new) ⊎ (new ≡ last_count)

-- the count after one more
abbrev pub one_more : ℕ → ℕ
one_more n = min (n + 1) last_count
