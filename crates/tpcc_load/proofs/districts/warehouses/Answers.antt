use Rattle.tpcc_load.specs.Heads as heads
use Rattle.tpcc_load.proofs.Overs.{laid-none, laid-more}
use Rattle.tpcc_load.proofs.districts.warehouses.Goals as goal

pub loop-w-init : goal.loop-w-init
loop-w-init c = laid-none (heads.warehouse c.args.settings.now) c.args.tables.now c.args.draws.now

pub loop-w-preserved : goal.loop-w-preserved
loop-w-preserved c =
    laid-more c.loop-w.w (heads.warehouse c.args.settings.now) c.args.tables.now c.loop-w.tables c.warehouse.new.tables
    c.args.draws.now c.loop-w.draws c.warehouse.new.draws c.loop-w.invariant c.in_ok-warehouse.ensures
