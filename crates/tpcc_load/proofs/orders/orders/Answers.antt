use Rattle.std.proofs.Common.{◌≡◌, ap, ◌∙◌, ◌+◌, ◌-◌, arith}
use Rattle.std.specs.Prelude.{slice_index_or}
use Rattle.tpcc_load.specs.Rows.{laid_drawn}
use Rattle.tpcc_load.specs.Heads as heads
use Rattle.tpcc_load.proofs.Overs.{laid-none, laid-more}
use Rattle.tpcc_load.proofs.orders.orders.Goals as goal

pub loop-place-init : goal.loop-place-init
loop-place-init c = laid-none (heads.order c.args.settings.now c.args.at.w c.args.at.d c.args.places.now) c.args.tables.now c.args.draws.now

pub loop-place-preserved : goal.loop-place-preserved
loop-place-preserved c =
    let s = c.args.settings.now in
    let w = c.args.at.w in
    let d = c.args.at.d in
    let n = c.loop-place.place in
    let places = c.args.places.now in
    let e : n ≡ n + 1 - 1 = omega arith in
    laid-more n (heads.order s w d places) c.args.tables.now c.loop-place.tables c.order.new.tables
    c.args.draws.now c.loop-place.draws c.order.new.draws c.loop-place.invariant
    (c.in_ok-order.ensures
    ∙ ap (λ m. laid_drawn c.loop-place.tables (heads.order_of s w d (slice_index_or places m 0) (n + 1) c.loop-place.draws)) e)
