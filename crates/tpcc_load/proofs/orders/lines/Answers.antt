use Rattle.tpcc_load.specs.Heads as heads
use Rattle.tpcc_load.proofs.Overs.{laid-none, laid-more}
use Rattle.tpcc_load.proofs.orders.lines.Goals as goal

pub loop-line-init : goal.loop-line-init
loop-line-init c = laid-none (heads.order_line c.args.settings.now c.args.at.w c.args.at.d c.args.o) c.args.tables.now c.args.draws.now

pub loop-line-preserved : goal.loop-line-preserved
loop-line-preserved c =
    laid-more c.loop-line.line (heads.order_line c.args.settings.now c.args.at.w c.args.at.d c.args.o) c.args.tables.now c.loop-line.tables
    c.one_line.new.tables
    c.args.draws.now c.loop-line.draws c.one_line.new.draws c.loop-line.invariant c.in_ok-one_line.ensures
