-- To which shard a key belongs, what a shard holds, and the map that shards are together.
use Rattle.std.specs.Prelude.{◌≡◌, ℕ, ◌/◌, ◌^◌, ◌<◌, List, length, map, Option, IsSome, slice_index_or}
use Rattle.std.specs.FinMap as fin
use Rattle.aria_base.specs.Orders.{Cells, Database}
use Rattle.aria_base.specs.declared.keys.Key.{Key}
use Rattle.tbl_rows.specs.declared.homes.TheConstants.{SHARDS, SHARD_SHIFT}
use Rattle.tbl_rows.specs.Hashes.{hash_of}
use Rattle.tbl_rows.specs.Pools.{pooled}

-- the shard of a key: the highest bits of its hash
unfoldable pub home : Key → ℕ
home key = hash_of key / 2 ^ SHARD_SHIFT

-- what a contract sees of a shard
pub record Piece : Type 0 where
  pub number : ℕ
  pub rows : Database

-- the shard with this row at the key, and without the key
abbrev pub with_row : Piece → Key → Cells → Piece
with_row piece key row = record { number = piece.number; rows = fin.insert piece.rows key row }

abbrev pub without_row : Piece → Key → Piece
without_row piece key = record { number = piece.number; rows = fin.remove piece.rows key }

-- a shard with no rows
abbrev pub bare : ℕ → Piece
bare number = record { number = number; rows = fin.empty }

-- each key of the shard belongs to it
abbrev pub IsOwn : Piece → Type 0
IsOwn piece = (q : Key) → IsSome (fin.get piece.rows q) → home q ≡ piece.number

-- what is so of every shard
pub record IsShard (piece : Piece) : Type 0 where
  pub below : piece.number < SHARDS
  pub own : IsOwn piece

-- the shard at place i has the number i
abbrev pub AllNumbered : List Piece → Type 0
AllNumbered pieces = (i : ℕ) (d : Piece) → i < length pieces → (slice_index_or pieces i d).number ≡ i

abbrev pub AllOwn : List Piece → Type 0
AllOwn pieces = (i : ℕ) (d : Piece) → i < length pieces → IsOwn (slice_index_or pieces i d)

-- all shards, in the order of their numbers
pub record IsWhole (pieces : List Piece) : Type 0 where
  pub count : length pieces ≡ SHARDS
  pub numbered : AllNumbered pieces
  pub own : AllOwn pieces

-- the map that the shards are together
abbrev pub joined : List Piece → Database
joined pieces = pooled (map (λ piece. piece.rows) pieces)

-- the row that the key's own shard has there
abbrev pub at_home : List Piece → Key → Option Cells
at_home pieces q = fin.get (slice_index_or pieces (home q) (bare 0)).rows q
