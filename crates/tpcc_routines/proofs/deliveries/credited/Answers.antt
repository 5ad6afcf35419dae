use Rattle.std.proofs.Common.{◌≡◌, ◌∙◌, sym, subst, ◌+ℤ◌, ◌-◌, List, take, drop, length, Some, arith, FitsSigned, to_z, of_z, w64, rules}
use Rattle.std.proofs.lemmas.Grind.{common_steps}
use Rattle.std.proofs.lemmas.Int.{to_z-of_z}
use Rattle.range_rules.specs.declared.routines.Seen.{Seen}
use Rattle.tpcc_routines.specs.Routines.{in_range}
use Rattle.tpcc_routines.proofs.Turning.{credit_turned}
use Rattle.tpcc_routines.proofs.deliveries.credited.Goals as goal

pub returns-in_ok-turn-in-Some : goal.returns-in_ok-turn-in-Some
returns-in_ok-turn-in-Some c next =
    let rest : List Seen = take (length c.args.seen.now - 1) (drop 1 c.args.seen.now) in
    let fits_a : FitsSigned w64 c.column_at.result = search rules in
    let same_a : to_z w64 (of_z w64 c.column_at.result) ≡ c.column_at.result = to_z-of_z w64 c.column_at.result fits_a in
    let fits_b : FitsSigned w64 c.args.amount.now = search rules in
    let same_b : to_z w64 (of_z w64 c.args.amount.now) ≡ c.args.amount.now = to_z-of_z w64 c.args.amount.now fits_b in
    let fits_n : FitsSigned w64 c.in-Some.balance = search rules in
    let same_n : to_z w64 (of_z w64 c.in-Some.balance) ≡ c.in-Some.balance = to_z-of_z w64 c.in-Some.balance fits_n in
    let sum : c.sum.result ≡ in_range (c.column_at.result +ℤ c.args.amount.now) = c.sum.ensures ∙ (λ i. in_range (same_a i +ℤ same_b i)) in
    let is : in_range (c.column_at.result +ℤ c.args.amount.now) ≡ Some (to_z w64 (of_z w64 c.in-Some.balance)) =
    subst (λ n. in_range (c.column_at.result +ℤ c.args.amount.now) ≡ Some n) (sym same_n) (sym sum ∙ c.in-Some.is) in
    credit_turned c.args.at c.args.o.now c.args.c.now c.args.amount.now next _ rest c.args.seen.now c.in_ok-turn-in-Some.turn c.column_at.result
    (to_z w64 (of_z w64 c.in-Some.balance)) (c.in_ok-turn-in-Some.ensures next) c.column_at.ensures is (grind (arith, common_steps)) (search rules)
