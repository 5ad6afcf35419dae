use Rattle.std.proofs.Common.{◌≡◌, ℤ, pos, ◌+◌, drop, get_or, ap, sym, subst, ◌∙◌, if◌then◌else◌, FitsSigned, to_z, of_z, w64, rules}
use Rattle.std.proofs.lemmas.Int.{to_z-of_z}
use Rattle.std.specs.Prelude.{int_lt}
use Rattle.range_rules.specs.Walks.{Walk, follow}
use Rattle.tpcc_routines.specs.Routines.{quantity_of, counted}
use Rattle.tpcc_routines.specs.Turns.{Turns}
use Rattle.tpcc_routines.proofs.Turning.{counted_on, one_more}
use Rattle.tpcc_routines.proofs.levels.count.Goals as goal

pub returns-in-Asks : goal.returns-in-Asks
returns-in-Asks c =
    let at = c.args.at in
    let t = c.args.t.now in
    let i = c.loop-item.item-index in
    let items = c.args.items.now in
    let left = c.loop-item.left.now in
    let behind : ℤ → Walk =
    λ quantity. counted c.args.at c.args.t.now (if int_lt quantity c.args.t.now then c.loop-item.count + 1 else c.loop-item.count)
    (drop (c.loop-item.item-index + 1) c.args.items.now) in
    subst (Turns (quantity_of at (get_or items i (pos 0)) behind) behind left) c.in-Asks.is (c.quantity_of.ensures behind)
    ∙ ap (λ w. follow w left) (sym (counted_on at t c.loop-item.count items i c.loop-item-test.true))
    ∙ c.loop-item.invariant.0

pub loop-item-preserved : goal.loop-item-preserved
loop-item-preserved c =
    let at = c.args.at in
    let t = c.args.t.now in
    let i = c.loop-item.item-index in
    let items = c.args.items.now in
    let left = c.loop-item.left.now in
    let n = c.loop-item.count in
    let behind : ℤ → Walk =
    λ quantity. counted c.args.at c.args.t.now (if int_lt quantity c.args.t.now then c.loop-item.count + 1 else c.loop-item.count)
    (drop (c.loop-item.item-index + 1) c.args.items.now) in
    let fits : FitsSigned w64 c.in-Goes.quantity = search rules in
    let same : to_z w64 (of_z w64 c.in-Goes.quantity) ≡ c.in-Goes.quantity = to_z-of_z w64 c.in-Goes.quantity fits in
    let is = c.with_quantity-count.ensures ∙ ap (λ q. if int_lt q t then n + 1 else n) same in (
      ap (λ count. follow (counted at t count (drop (i + 1) items)) c.in-Goes.rest.now) is
          ∙ subst (Turns (quantity_of at (get_or items i (pos 0)) behind) behind left) c.in-Goes.is (c.quantity_of.ensures behind)
          ∙ ap (λ w. follow w left) (sym (counted_on at t n items i c.loop-item-test.true))
          ∙ c.loop-item.invariant.0,
      one_more (int_lt c.in-Goes.quantity t) c.with_quantity-count.result n i is c.loop-item.invariant.1,
    )
