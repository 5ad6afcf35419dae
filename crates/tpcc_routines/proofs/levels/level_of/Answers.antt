use Rattle.std.proofs.Common.{◌≡◌, suc, ◌+◌, ◌-◌, List, ap, subst, ◌∙◌, arith}
use Rattle.aria_base.specs.Orders.{Cells}
use Rattle.aria_base.specs.declared.keys.Key.{Key}
use Rattle.range_rules.specs.Walks.{Walk, follow}
use Rattle.tpcc_routines.specs.Routines.{lines_before, level_of, last_level, counted, with_items}
use Rattle.tpcc_routines.specs.Turns.{TurnsLines}
use Rattle.tpcc_routines.proofs.levels.level_of.Goals as goal

pub loop-turn-init : goal.loop-turn-init
unfolding last_level
loop-turn-init c n e =
    let same : n ≡ 20 = omega arith in
    λ i. follow (level_of c.args.at c.args.t.now c.args.next.now (same i) (c.new-items.ensures.empty i)) c.args.seen.now

pub returns-in-Asks : goal.returns-in-Asks
unfolding level_of
returns-in-Asks c =
    let turn = c.loop-turn.turn in
    let go : List (Key × Cells) → Walk = λ lines. level_of c.args.at c.args.t.now c.args.next.now (19 - c.loop-turn.turn)
    (with_items c.loop-turn.items.keys lines) in
    let left : suc (19 - c.loop-turn.turn) + c.loop-turn.turn ≡ 20 = let below = c.loop-turn-test.true in omega arith in
    let same : 20 - c.loop-turn.turn ≡ suc (19 - c.loop-turn.turn) = let below = c.loop-turn-test.true in omega arith in
    subst (TurnsLines (lines_before c.args.at c.args.next.now (suc (19 - turn)) go) go c.loop-turn.left.now) c.in-Asks.is
    (subst (λ n. TurnsLines (lines_before c.args.at c.args.next.now n go) go c.loop-turn.left.now c.lines_before.result) same (c.lines_before.ensures go))
    ∙ c.loop-turn.invariant (suc (19 - turn)) left

pub loop-turn-preserved : goal.loop-turn-preserved
unfolding level_of
loop-turn-preserved c n e =
    let go : List (Key × Cells) → Walk = λ lines. level_of c.args.at c.args.t.now c.args.next.now n (with_items c.loop-turn.items.keys lines) in
    let left : suc n + c.loop-turn.turn ≡ 20 = omega arith in
    let same : 20 - c.loop-turn.turn ≡ suc n = omega arith in
    ap (λ keys. follow (level_of c.args.at c.args.t.now c.args.next.now n keys) c.in-Goes.rest.now) c.in_ok-add_items-in-Goes.ensures
    ∙ subst (TurnsLines (lines_before c.args.at c.args.next.now (suc n) go) go c.loop-turn.left.now) c.in-Goes.is
    (subst (λ n. TurnsLines (lines_before c.args.at c.args.next.now n go) go c.loop-turn.left.now c.lines_before.result) same (c.lines_before.ensures go))
    ∙ c.loop-turn.invariant (suc n) left

pub returns : goal.returns
unfolding level_of
returns c =
    let none : 0 + c.loop-turn.turn ≡ 20 = omega arith in
    c.in_ok-action.ensures ∙ ap (λ all. follow (counted c.args.at c.args.t.now 0 all) c.loop-turn.left.now) (c.deref.ensures.value ∙ c.in_ok-all.ensures)
    ∙ c.loop-turn.invariant 0 none
