-- Which hashes are taken: 128 bits, of which a hash has the one that its highest seven bits name.
use Rattle.std.specs.Prelude.{ℕ, ◌≡◌, ◌/◌, ◌^◌, List, [], ◌∷◌}
use Rattle.std.specs.Int.{bit_at}
use Rattle.std.specs.Int.Bits.{bit_or}
use Rattle.aria_base.specs.declared.keys.Key.{Key}
use Rattle.tbl_rows.specs.Hashes.{hash_of}

-- where the bit of a hash stands
abbrev pub bit_of : ℕ → ℕ
bit_of hash = hash / 2 ^ 57

abbrev pub with_bit : ℕ → ℕ → ℕ
with_bit bits hash = bit_or bits (2 ^ bit_of hash)

-- each key's hash has its bit
abbrev pub AllMarked : ℕ → List Key → Type 0
AllMarked bits [] = Unit {0}
AllMarked bits (k ∷ ks) = (bit_at bits (bit_of (hash_of k)) ≡ 1) × AllMarked bits ks
