-- The hash of a key.
use Rattle.std.specs.Prelude.{ℕ, ◌+◌, ◌*◌, ◌/◌, ◌%◌, ◌^◌}
use Rattle.std.specs.List.{fold}
use Rattle.std.specs.Int.{w64, cast_unsigned}
use Rattle.aria_base.specs.declared.keys.Part.{Part}
use Rattle.aria_base.specs.declared.keys.Part.TheVariants as part
use Rattle.aria_base.specs.declared.keys.Key.{Key}
use Rattle.tbl_rows.specs.declared.hashes.TheConstants.{SPREAD, HALF_BITS}

-- a hash with one more word
abbrev pub with_word : ℕ → ℕ → ℕ
with_word hash word = (hash * SPREAD + word) % 2 ^ 64

-- and with one more part: a number is one word, a text one a byte
abbrev pub with_part : ℕ → Part → ℕ
with_part hash (part.Int number) = with_word hash (cast_unsigned w64 number)
with_part hash (part.Text bytes) = fold with_word hash bytes

-- a hash with its upper half added to the lower one
abbrev pub folded : ℕ → ℕ
folded hash = (hash + hash / 2 ^ HALF_BITS) % 2 ^ 64

-- of a key, its table and its parts, folded before they are spread once more
unfoldable pub hash_of : Key → ℕ
hash_of key = with_word (folded (with_word (fold with_part key.table key.parts) 0)) 0
