-- How a row with its key, and a shard, are kept as ghost values.
use Rattle.std.specs.Prelude.{ℕ, refl}
use Rattle.std.specs.Coded.{Coded, code_by, coded×, coded_ℕ}
use Rattle.aria_base.specs.contracts.keys.Key as key
use Rattle.aria_base.specs.Codes.{cells_code, database_code}
use Rattle.aria_base.specs.Orders.{Cells, Database}
use Rattle.aria_base.specs.declared.keys.Key.{Key}
use Rattle.tbl_rows.specs.Shards.{Piece}

abbrev pub entry_code : Coded (Key × Cells)
entry_code = coded× (key.the_row).coded cells_code

abbrev pub piece_code : Coded Piece
piece_code =
    code_by (ℕ × Database) (coded× coded_ℕ database_code) (λ p. (p.number, p.rows)) (λ p. record { number = p.0; rows = p.1 }) (λ _. refl)
