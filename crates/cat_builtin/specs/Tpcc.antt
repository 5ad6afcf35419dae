-- The catalogue `tpcc`: eleven tables, and two procedures.
use Rattle.std.specs.Prelude.{[], ◌∷◌}
use Rattle.proc_lang.specs.Catalogs.{Plan}
use Rattle.cat_builtin.specs.Warehouses.{tables}
use Rattle.cat_builtin.specs.NewOrders.{new_order}
use Rattle.cat_builtin.specs.Payments.{payment}

abbrev pub tpcc : Plan
tpcc = record { tables = tables; procs = new_order ∷ payment ∷ [] }
