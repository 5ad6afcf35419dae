use Rattle.std.proofs.Common.{◌≡◌, ℤ, ◌+◌, drop, ap, sym, subst, ◌∙◌, FitsSigned, to_z, of_z, w64, rules}
use Rattle.std.proofs.lemmas.Int.{to_z-of_z}
use Rattle.range_rules.specs.Walks.{Walk, follow}
use Rattle.tpcc_routines.specs.Routines.{line_dated, each_dated}
use Rattle.tpcc_routines.specs.Turns.{Turns}
use Rattle.tpcc_routines.proofs.Turning.{dated_on}
use Rattle.tpcc_routines.proofs.deliveries.each_dated.Goals as goal

pub returns-in-Asks : goal.returns-in-Asks
returns-in-Asks c next =
    let line = c.loop-key-item.result in
    let i = c.loop-key.key-index in
    let sum : ℤ = to_z w64 c.loop-key.amount-bits in
    let date = c.args.what.date in
    let lines = c.args.lines.now in
    let behind : ℤ → Walk = λ sum. each_dated c.args.what.date sum (drop (c.loop-key.key-index + 1) c.args.lines.now) next in
    subst (Turns (line_dated date sum line behind) behind c.loop-key.left.now) c.in-Asks.is (c.in_ok-action.ensures behind)
    ∙ ap (λ w. follow w c.loop-key.left.now) (sym (dated_on date sum lines i line next c.loop-key-test.true c.loop-key-item.is))
    ∙ c.loop-key.invariant next

pub loop-key-preserved : goal.loop-key-preserved
loop-key-preserved c next =
    let line = c.loop-key-item.result in
    let i = c.loop-key.key-index in
    let sum : ℤ = to_z w64 c.loop-key.amount-bits in
    let date = c.args.what.date in
    let lines = c.args.lines.now in
    let behind : ℤ → Walk = λ sum. each_dated c.args.what.date sum (drop (c.loop-key.key-index + 1) c.args.lines.now) next in
    let fits : FitsSigned w64 c.in-Goes.more = search rules in
    let same : to_z w64 (of_z w64 c.in-Goes.more) ≡ c.in-Goes.more = to_z-of_z w64 c.in-Goes.more fits in
    ap (λ n. follow (behind n) c.in-Goes.rest.now) same
    ∙ subst (Turns (line_dated date sum line behind) behind c.loop-key.left.now) c.in-Goes.is (c.in_ok-action.ensures behind)
    ∙ ap (λ w. follow w c.loop-key.left.now) (sym (dated_on date sum lines i line next c.loop-key-test.true c.loop-key-item.is))
    ∙ c.loop-key.invariant next
