-- Bytes in memory, with room for more.
use Rattle.std.specs.Prelude.{ℕ, List, []}

pub record RoomyBytes : Type 0 where
  pub bytes : List ℕ
  -- how many bytes more there is room for
  pub spare : ℕ

abbrev pub no_bytes : RoomyBytes
no_bytes = record { bytes = []; spare = 0 }
