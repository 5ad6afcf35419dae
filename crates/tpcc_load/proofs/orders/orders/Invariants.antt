use Rattle.std.proofs.Common.{◌≡◌}
use Rattle.tpcc_load.specs.Draws.{over}
use Rattle.tpcc_load.specs.Rows.{laid_drawn}
use Rattle.tpcc_load.specs.Heads as heads
use Rattle.tpcc_load.proofs.orders.orders.Given as goal

abbrev pub invariant-loop-place : goal.invariant-loop-place
invariant-loop-place l = (l.tables, l.draws) ≡ laid_drawn l.initial.tables (over l.place (heads.order l.settings l.at.w l.at.d l.places) l.initial.draws)
