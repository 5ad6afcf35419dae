-- How order entry draws: what is drawn once for each of several numbers, and numbers that are not drawn evenly.
use Rattle.std.specs.Prelude.{ℕ, zero, suc, ◌+◌, ◌-◌, ◌%◌, bit_or, nat_le, List, [], ◌++◌, if◌then◌else◌}
use Rattle.load_gen.specs.Draws.{Drawn, known, ◌>>=◌, random}

-- what is drawn for each number from 1 to this one, all in one list
unfoldable pub over : {A : Type 0} → ℕ → (ℕ → Drawn (List A)) → Drawn (List A)
over zero d = known []
over (suc n) d = do
  earlier ← over n d
  last ← d (n + 1)
  known (earlier ++ last)

-- a number from low to high, some more often than others; `spread` tells how far, and `shift` which
abbrev pub nurand : ℕ → ℕ → ℕ → ℕ → Drawn ℕ
nurand spread shift low high = do
  a ← random 0 spread
  b ← random low high
  known ((bit_or a b + shift) % (high - low + 1) + low)

-- a name, by its number
abbrev pub drawn_name : ℕ → Drawn ℕ
drawn_name names = nurand 255 100 0 (names - 1)

abbrev pub drawn_customer : ℕ → Drawn ℕ
drawn_customer customers = nurand 1023 500 1 customers

abbrev pub drawn_item : ℕ → Drawn ℕ
drawn_item items = nurand 8191 4000 1 items

-- a warehouse that is not this one
abbrev pub other_warehouse : ℕ → ℕ → Drawn ℕ
other_warehouse warehouses w = do
  x ← random 1 (warehouses - 1)
  known (if nat_le w x then x + 1 else x)
