use Rattle.std.proofs.Common.{◌≡◌, ℤ, pos, suc, ◌+◌, ◌-◌, ◌++◌, ◌∷◌, [], ap, subst, ◌∙◌, arith, FitsSigned, to_z, of_z, w64, rules}
use Rattle.std.proofs.lemmas.Int.{to_z-of_z}
use Rattle.aria_base.specs.declared.values.Value.TheVariants as value
use Rattle.range_rules.specs.Walks.{Walk, follow}
use Rattle.tpcc_audit.specs.declared.facts.District.{District}
use Rattle.tpcc_routines.specs.Routines.{deliver, deliveries, delivery}
use Rattle.tpcc_routines.specs.Turns.{Turns}
use Rattle.tpcc_routines.proofs.deliveries.delivery.Goals as goal

pub loop-district-init : goal.loop-district-init
unfolding delivery
loop-district-init c n e =
    let same : n ≡ 10 = omega arith in
    λ i. follow (deliveries c.args.what (same i) 0 (c.in_ok-orders.ensures.items i)) c.args.seen.now

pub returns-in-Asks : goal.returns-in-Asks
unfolding deliveries
returns-in-Asks c =
    let d = c.loop-district.district in
    let at : District = record { w = c.args.what.w; d = pos (c.loop-district.district + 1) } in
    let next : ℤ → Walk = λ o. deliveries c.args.what (9 - d) (d + 1) (c.loop-district.orders.items ++ value.Int o ∷ []) in
    let left : suc (9 - c.loop-district.district) + c.loop-district.district ≡ 10 = let below = c.loop-district-test.true in omega arith in
    subst (Turns (deliver c.args.what at next) next c.loop-district.left.now) c.in-Asks.is
    (subst (λ (at : District). Turns (deliver c.args.what at next) next c.loop-district.left.now c.in_ok-action.field-0) c.district_of.ensures
    (c.in_ok-action.ensures next))
    ∙ c.loop-district.invariant (suc (9 - d)) left

pub loop-district-preserved : goal.loop-district-preserved
unfolding deliveries
loop-district-preserved c n e =
    let d = c.loop-district.district in
    let at : District = record { w = c.args.what.w; d = pos (c.loop-district.district + 1) } in
    let next : ℤ → Walk = λ o. deliveries c.args.what n (d + 1) (c.loop-district.orders.items ++ value.Int o ∷ []) in
    let left : suc n + c.loop-district.district ≡ 10 = omega arith in
    let fits_o : FitsSigned w64 c.in-Goes.order = search rules in
    let same_o : to_z w64 (of_z w64 c.in-Goes.order) ≡ c.in-Goes.order = to_z-of_z w64 c.in-Goes.order fits_o in
    ap (λ given. follow (deliveries c.args.what n (d + 1) given) c.in-Goes.rest.now)
    (c.in_ok-push-in-Goes.ensures.items ∙ ap (λ o. c.loop-district.orders.items ++ value.Int o ∷ []) same_o)
    ∙ subst (Turns (deliver c.args.what at next) next c.loop-district.left.now) c.in-Goes.is
    (subst (λ (at : District). Turns (deliver c.args.what at next) next c.loop-district.left.now c.in_ok-action.field-0) c.district_of.ensures
    (c.in_ok-action.ensures next))
    ∙ c.loop-district.invariant (suc n) left

pub returns : goal.returns
unfolding deliveries
returns c =
    let none : 0 + c.loop-district.district ≡ 10 = omega arith in
    c.given.ensures ∙ c.loop-district.invariant 0 none
