-- How a database is kept as a ghost value.
use Rattle.std.specs.FinMap as fin
use Rattle.std.specs.Coded.{Coded, coded_list}
use Rattle.aria_base.specs.contracts.keys.Key as key
use Rattle.aria_base.specs.contracts.values.Value as value
use Rattle.aria_base.specs.Orders.{Cells, Database}

abbrev pub cells_code : Coded Cells
cells_code = coded_list (value.the_row).coded

abbrev pub database_code : Coded Database
database_code = fin.code (key.the_row).coded cells_code
