-- Maps that are one map together, as shards are and the buckets of a shard, and to which bucket a key belongs.
use Rattle.std.specs.Prelude.{◌≡◌, ℕ, ◌+◌, ◌/◌, ◌%◌, ◌^◌, ◌<◌, ◌≤◌, ◌==◌, Bool, nat_lt, if◌then◌else◌, List, [], ◌∷◌, ◌++◌}
use Rattle.std.specs.Prelude.{length, Option, Some, None, IsSome, slice_index_or}
use Rattle.std.specs.List.{flat_map, IsDistinct}
use Rattle.std.specs.List.Sorted.{IsPermutation}
use Rattle.std.specs.Map.{keys_of}
use Rattle.std.specs.Ordering.{eq_by_cmp}
use Rattle.std.specs.FinMap as fin
use Rattle.aria_base.specs.Orders.{key_cmp, Cells, Database}
use Rattle.aria_base.specs.declared.keys.Key.{Key}
use Rattle.tbl_rows.specs.Hashes.{hash_of}
use Rattle.tbl_rows.specs.declared.homes.TheConstants.{BUCKET_SHIFT, LAST_LEVEL}

-- rows with their keys
abbrev pub Entries : Type 0
Entries = List (Key × Cells)

-- no two of them have one key
abbrev pub AllApart : Entries → Type 0
AllApart entries = IsDistinct (eq_by_cmp key_cmp) (keys_of entries)

-- a list with the rows of a map added to it, in whatever order
abbrev pub Adds : Database → Entries → Entries → Type 0
Adds rows before after = IsPermutation (before ++ fin.entries rows) after

-- the map that maps are together
abbrev pub pooled : List Database → Database
pooled maps = fin.from_entries (flat_map fin.entries maps)

-- each map has rows only at the keys whose home is its place
pub record IsSpread (home : Key → ℕ) (maps : List Database) : Type 0 where
  pub below : (q : Key) → home q < length maps
  pub own : (i : ℕ) (d : Database) → i < length maps → (q : Key) → IsSome (fin.get (slice_index_or maps i d) q) → home q ≡ i

-- The bucket of a hash among so many, by linear hashing. In a round there were 2 ^ level buckets when it
-- began, each of which is split in two in turn. Those that a split has made are told by one bit more.
abbrev pub slot_at : ℕ → ℕ → ℕ → ℕ
slot_at level count hash =
    let bits = hash / 2 ^ BUCKET_SHIFT in
    let wide = bits % 2 ^ (level + 1) in
    if nat_lt wide count then wide else bits % 2 ^ level

unfoldable pub slot : ℕ → ℕ → Key → ℕ
slot level count key = slot_at level count (hash_of key)

-- whether a key moves to the next bucket when that is made
abbrev pub is_moved : ℕ → ℕ → Key → Bool
is_moved level count key = slot level (count + 1) key == count

-- the map of one row or of none
abbrev pub only : Option (Key × Cells) → Database
only None = fin.empty
only (Some e) = fin.insert fin.empty e.0 e.1

-- what is so of the buckets of every shard
pub record IsPool (level : ℕ) (buckets : List Database) : Type 0 where
  pub least : 2 ^ level ≤ length buckets
  pub most : length buckets ≤ 2 ^ (level + 1)
  pub bounded : level ≤ LAST_LEVEL
  pub spread : IsSpread (slot level (length buckets)) buckets

-- two maps as one
abbrev pub beside : Database → Database → Database
beside near far = pooled (near ∷ far ∷ [])

-- the second has no row where the first has one
abbrev pub IsApart : Database → Database → Type 0
IsApart near far = (q : Key) → IsSome (fin.get near q) → fin.get far q ≡ None
