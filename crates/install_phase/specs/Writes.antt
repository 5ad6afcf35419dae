-- Writes, and a shard after those that are to its keys.
use Rattle.std.specs.Prelude.{ℕ, List, [], ◌∷◌, Bool, Option, filter, nat_eq}
use Rattle.std.specs.List.{list_any}
use Rattle.aria_base.specs.Orders.{Cells, Database}
use Rattle.aria_base.specs.declared.keys.Key.{Key}
use Rattle.batch_rules.specs.Trees.{set_at}
use Rattle.tbl_rows.specs.Shards.{Piece, home}

-- keys with the rows that they get, in the order in which they get them
abbrev pub Written : Type 0
Written = List (Key × Option Cells)

-- the writes to keys of a shard, in their order
abbrev pub at_shard : ℕ → Written → Written
at_shard number writes = filter (λ write. nat_eq (home write.0) number) writes

-- whether one of the shards has this number
abbrev pub is_one : List Piece → ℕ → Bool
is_one pieces number = list_any (λ piece. nat_eq piece.number number) pieces

-- the writes to keys of these shards, in their order
abbrev pub at_shards : List Piece → Written → Written
at_shards pieces writes = filter (λ write. is_one pieces (home write.0)) writes

-- rows after writes
abbrev pub applied : Database → Written → Database
applied rows [] = rows
applied rows (write ∷ writes) = applied (set_at rows write.0 write.1) writes

-- a shard after those of the writes that are to its keys
abbrev pub finished : Written → Piece → Piece
finished writes piece = record { number = piece.number; rows = applied piece.rows (at_shard piece.number writes) }
