use Rattle.std.proofs.Common.{◌≡◌}
use Rattle.tpcc_load.specs.Draws.{over}
use Rattle.tpcc_load.specs.Rows.{laid_drawn}
use Rattle.tpcc_load.specs.Heads as heads
use Rattle.tpcc_load.proofs.stocks.items.Given as goal

abbrev pub invariant-loop-item : goal.invariant-loop-item
invariant-loop-item l = (l.tables, l.draws) ≡ laid_drawn l.initial.tables (over l.item heads.item l.initial.draws)
