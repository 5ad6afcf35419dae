use Rattle.tpcc_load.specs.Heads as heads
use Rattle.tpcc_load.proofs.Overs.{laid-none, laid-more}
use Rattle.tpcc_load.proofs.districts.districts.Goals as goal

pub loop-d-init : goal.loop-d-init
loop-d-init c = laid-none (heads.district c.args.settings.now c.args.w) c.args.tables.now c.args.draws.now

pub loop-d-preserved : goal.loop-d-preserved
loop-d-preserved c =
    laid-more c.loop-d.d (heads.district c.args.settings.now c.args.w) c.args.tables.now c.loop-d.tables c.district.new.tables
    c.args.draws.now c.loop-d.draws c.district.new.draws c.loop-d.invariant c.in_ok-district.ensures
