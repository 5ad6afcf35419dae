use Rattle.std.proofs.Common.{◌≡◌, arith, subst, FitsSigned, to_z, of_z, w64, rules}
use Rattle.std.proofs.lemmas.Grind.{common_steps}
use Rattle.std.proofs.lemmas.Int.{to_z-of_z}
use Rattle.range_rules.specs.Walks.{follow}
use Rattle.tpcc_routines.specs.Routines.{closed, oldest}
use Rattle.tpcc_routines.specs.Turns.{Turns}
use Rattle.tpcc_routines.proofs.Turning.{turned}
use Rattle.tpcc_routines.proofs.deliveries.oldest.Goals as goal

pub returns-in_ok-turn-in-len1-up : goal.returns-in_ok-turn-in-len1-up
returns-in_ok-turn-in-len1-up c next =
    let fits_o : FitsSigned w64 c.part_at.result = search rules in
    let same_o : to_z w64 (of_z w64 c.part_at.result) ≡ c.part_at.result = to_z-of_z w64 c.part_at.result fits_o in
    let same : follow (closed c.args.what c.args.at c.part_at.result next) c.args.seen.now
    ≡ follow (oldest c.args.what c.args.at next c.args.orders.now) c.args.seen.now = grind (arith, common_steps) in
    turned (closed c.args.what c.args.at c.part_at.result next) (oldest c.args.what c.args.at next c.args.orders.now) next c.args.seen.now c.args.seen.now
    c.in_ok-turn-in-len1-up.turn same
    (subst (λ o. Turns (closed c.args.what c.args.at o next) next c.args.seen.now c.in_ok-turn-in-len1-up.turn) same_o (c.in_ok-turn-in-len1-up.ensures next))
