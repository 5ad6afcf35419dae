use Rattle.std.proofs.Common.{◌≡◌, ◌-◌, take, drop, length, arith}
use Rattle.std.proofs.lemmas.Grind.{common_steps}
use Rattle.range_rules.specs.Walks.{follow}
use Rattle.tpcc_routines.specs.Routines.{closed, with_carrier}
use Rattle.tpcc_routines.proofs.Turning.{turned}
use Rattle.tpcc_routines.proofs.deliveries.closed.Goals as goal

pub returns-in_ok-turn-in-Wrote : goal.returns-in_ok-turn-in-Wrote
unfolding closed
returns-in_ok-turn-in-Wrote c next =
    let same : follow (with_carrier c.args.what c.args.at c.args.o.now next) (take (length c.args.seen.now - 1) (drop 1 c.args.seen.now)) ≡ follow
    (closed c.args.what c.args.at c.args.o.now next) c.args.seen.now = grind (arith, common_steps) in
    turned (with_carrier c.args.what c.args.at c.args.o.now next) (closed c.args.what c.args.at c.args.o.now next) next
    (take (length c.args.seen.now - 1) (drop 1 c.args.seen.now)) c.args.seen.now c.in_ok-turn-in-Wrote.turn same (c.in_ok-turn-in-Wrote.ensures next)
