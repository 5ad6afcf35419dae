use Rattle.std.proofs.Common.{◌≡◌}
use Rattle.tpcc_load.specs.Draws.{over}
use Rattle.tpcc_load.specs.Rows.{laid_drawn}
use Rattle.tpcc_load.specs.Heads as heads
use Rattle.tpcc_load.proofs.districts.warehouses.Given as goal

abbrev pub invariant-loop-w : goal.invariant-loop-w
invariant-loop-w l = (l.tables, l.draws) ≡ laid_drawn l.initial.tables (over l.w (heads.warehouse l.settings) l.initial.draws)
