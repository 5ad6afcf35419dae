use Rattle.tpcc_load.specs.Heads as heads
use Rattle.tpcc_load.proofs.Overs.{laid-none, laid-more}
use Rattle.tpcc_load.proofs.stocks.stock.Goals as goal

pub loop-item-init : goal.loop-item-init
loop-item-init c = laid-none (heads.stock c.args.w) c.args.tables.now c.args.draws.now

pub loop-item-preserved : goal.loop-item-preserved
loop-item-preserved c =
    laid-more c.loop-item.item (heads.stock c.args.w) c.args.tables.now c.loop-item.tables c.one_stock.new.tables
    c.args.draws.now c.loop-item.draws c.one_stock.new.draws c.loop-item.invariant c.in_ok-one_stock.ensures
