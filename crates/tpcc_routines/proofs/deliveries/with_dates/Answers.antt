use Rattle.std.proofs.Common.{◌≡◌, ℤ, subst, FitsSigned, to_z, of_z, w64, rules}
use Rattle.std.proofs.lemmas.Int.{to_z-of_z}
use Rattle.range_rules.specs.Walks.{Walk}
use Rattle.tpcc_routines.specs.Routines.{all_dated, credited, with_dates}
use Rattle.tpcc_routines.specs.Turns.{Turns}
use Rattle.tpcc_routines.proofs.Turning.{turned}
use Rattle.tpcc_routines.proofs.deliveries.with_dates.Goals as goal

pub returns-in-Asks : goal.returns-in-Asks
unfolding with_dates
returns-in-Asks c next =
    let behind : ℤ → Walk = λ amount. credited c.args.at c.args.o.now c.args.c.now amount next in
    subst (Turns (all_dated c.args.what.date c.args.lines.now behind) behind c.args.seen.now) c.in-Asks.is (c.in_ok-action.ensures behind)

pub returns-in_ok-turn-in-Goes : goal.returns-in_ok-turn-in-Goes
unfolding with_dates
returns-in_ok-turn-in-Goes c next =
    let behind : ℤ → Walk = λ amount. credited c.args.at c.args.o.now c.args.c.now amount next in
    let fits_n : FitsSigned w64 c.in-Goes.amount = search rules in
    let same_n : to_z w64 (of_z w64 c.in-Goes.amount) ≡ c.in-Goes.amount = to_z-of_z w64 c.in-Goes.amount fits_n in
    let front = subst (Turns (all_dated c.args.what.date c.args.lines.now behind) behind c.args.seen.now) c.in-Goes.is (c.in_ok-action.ensures behind) in
    turned (credited c.args.at c.args.o.now c.args.c.now c.in-Goes.amount next)
    (with_dates c.args.what c.args.at c.args.o.now c.args.c.now c.args.lines.now next) next
    c.in-Goes.rest.now c.args.seen.now c.in_ok-turn-in-Goes.turn front
    (subst (λ n. Turns (credited c.args.at c.args.o.now c.args.c.now n next) next c.in-Goes.rest.now c.in_ok-turn-in-Goes.turn) same_n
    (c.in_ok-turn-in-Goes.ensures next))
