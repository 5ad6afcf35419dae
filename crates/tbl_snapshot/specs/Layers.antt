-- What contracts see of an overlay: a database below, and what was touched through the overlay.
use Rattle.std.specs.Prelude.{List, Option, refl}
use Rattle.std.specs.Coded.{Coded, code_by, coded×, coded_list, coded_option}
use Rattle.aria_base.specs.contracts.keys.Key as key
use Rattle.aria_base.specs.Orders.{key_cmp, Cells, Database}
use Rattle.aria_base.specs.declared.keys.Key.{Key}
use Rattle.batch_rules.specs.Touches.{Noted, overwritten}
use Rattle.batch_rules.specs.Plays.{Seen}
use Rattle.aria_base.specs.Codes.{cells_code, database_code}

pub record Layer : Type 0 where
  pub base : Database
  pub noted : Noted Key Cells

-- the map that the overlay stands for is the database below, overwritten by the buffered writes
abbrev pub seen_of : Layer → Seen key_cmp Cells
seen_of layer = record { map = overwritten layer.base layer.noted.writes; noted = layer.noted }

-- writes, as the overlay has them
abbrev pub Buffer : Type 0
Buffer = List (Key × Option Cells)

abbrev pub buffer_code : Coded Buffer
buffer_code = coded_list (coded× (key.the_row).coded (coded_option cells_code))

abbrev Stored : Type 0
Stored = Database × (List Key × Buffer)

abbrev stored_code : Coded Stored
stored_code =
    coded× database_code (coded× (coded_list (key.the_row).coded) buffer_code)

abbrev pub layer_code : Coded Layer
layer_code =
    code_by Stored stored_code
    (λ l. (l.base, (l.noted.reads, l.noted.writes)))
    (λ s. record { base = s.0; noted = record { reads = s.1.0; writes = s.1.1 } })
    (λ _. refl)
