use Rattle.std.proofs.Common.{◌≡◌, ◌-◌, take, drop, length, arith, subst, FitsSigned, to_z, of_z, w64, rules}
use Rattle.std.proofs.lemmas.Grind.{common_steps}
use Rattle.std.proofs.lemmas.Int.{to_z-of_z}
use Rattle.range_rules.specs.Walks.{follow}
use Rattle.tpcc_routines.specs.Routines.{carried, dated}
use Rattle.tpcc_routines.specs.Turns.{Turns}
use Rattle.tpcc_routines.proofs.Turning.{turned}
use Rattle.tpcc_routines.proofs.deliveries.carried.Goals as goal

pub returns-in_ok-turn-in-Wrote : goal.returns-in_ok-turn-in-Wrote
unfolding carried
returns-in_ok-turn-in-Wrote c next =
    let rest = take (length c.args.seen.now - 1) (drop 1 c.args.seen.now) in
    let fits_c : FitsSigned w64 c.column_at.result = search rules in
    let same_c : to_z w64 (of_z w64 c.column_at.result) ≡ c.column_at.result = to_z-of_z w64 c.column_at.result fits_c in
    let same : follow (dated c.args.what c.args.at c.args.o.now c.column_at.result next) (take (length c.args.seen.now - 1) (drop 1 c.args.seen.now))
    ≡ follow (carried c.args.what c.args.at c.args.o.now c.args.order.now next) c.args.seen.now = grind (arith, common_steps) in
    turned (dated c.args.what c.args.at c.args.o.now c.column_at.result next) (carried c.args.what c.args.at c.args.o.now c.args.order.now next) next rest
    c.args.seen.now
    c.in_ok-turn-in-Wrote.turn same
    (subst (λ n. Turns (dated c.args.what c.args.at c.args.o.now n next) next rest c.in_ok-turn-in-Wrote.turn) same_c (c.in_ok-turn-in-Wrote.ensures next))
