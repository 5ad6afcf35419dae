use Rattle.std.proofs.Common.{◌≡◌}
use Rattle.tpcc_load.specs.Draws.{over}
use Rattle.tpcc_load.specs.Rows.{laid_drawn}
use Rattle.tpcc_load.specs.Heads as heads
use Rattle.tpcc_load.proofs.districts.districts.Given as goal

abbrev pub invariant-loop-d : goal.invariant-loop-d
invariant-loop-d l = (l.tables, l.draws) ≡ laid_drawn l.initial.tables (over l.d (heads.district l.settings l.w) l.initial.draws)
