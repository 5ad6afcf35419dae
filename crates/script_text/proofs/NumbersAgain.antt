-- A number is read from what is printed of it.
use Rattle.std.proofs.Common.{◌≡◌, ℕ, zero, suc, ℤ, pos, negsuc, ◌+◌, ◌-◌, ◌*◌, ◌^◌, ◌<◌, ◌≤◌, List, [], ◌∷◌, length, get_or, Some, Bool, true, cond, None, refl, ap, ◌∙◌, arith, rules}
use Rattle.std.specs.Prelude.{option_and_then}
use Rattle.std.specs.List.{list_all}
use Rattle.std.specs.Char.{is_ascii_digit}
use Rattle.std.specs.Fmt.{decimal, signed_decimal}
use Rattle.std.proofs.lemmas.Bool.{and_parts, ne_eqb}
use Rattle.std.proofs.lemmas.Int.{ints}
use Rattle.std.proofs.lemmas.Grind.{common_steps}
use Rattle.std.proofs.lemmas.Fmt.{digits_decimal, digits_value-decimal, decimal_nonempty, first_decimal, decimal_digit, length-decimal-le}
use Rattle.std.proofs.lemmas.Str.Parse.{IsNumeralModel, numerals_by_fold}
use Rattle.script_text.specs.Numbers.{is_i64, digits_after, natural_of, number_of, fitted, not_below_zero, below_zero}

abbrev read_on : ℕ → List ℕ → ℕ
read_on n [] = n
read_on n (b ∷ bs) = read_on (10 * n + (b - 48)) bs

abbrev pub AreDigits : List ℕ → Type 0
AreDigits ds = list_all is_ascii_digit ds ≡ true

own : IsNumeralModel AreDigits (read_on 0)
own = numerals_by_fold _ (search rules) read_on (search rules)

pub are_digits : (n : ℕ) → n < 2 ^ 64 → AreDigits (decimal n)
are_digits n h = digits_decimal own n h

digits_again : (front : ℕ) (ds : List ℕ) → AreDigits ds → digits_after front ds ≡ Some (read_on front ds)
digits_again front [] h = refl
digits_again front (d ∷ ds) h =
    let parts = and_parts (is_ascii_digit d) (list_all is_ascii_digit ds) h in
    let e = parts.0 in
    rw e (digits_again (10 * front + (d - 48)) ds parts.1)

short : (ds : List ℕ) → 0 < length ds → length ds ≤ 19 → 48 < get_or ds 0 0 → natural_of ds ≡ digits_after 0 ds
short [] some few first = absurd (omega arith)
short (d ∷ ds) some few first = grind (arith, common_steps)

pub natural_again : (n : ℕ) → n < 2 ^ 63 + 1 → natural_of (decimal n) ≡ Some n
natural_again zero h = rw (decimal_digit 0 (omega arith))
natural_again (suc n) h =
    let many : suc n < 2 ^ 64 = omega arith in
    let value : read_on 0 (decimal (suc n)) ≡ suc n = digits_value-decimal own (suc n) many in
    short (decimal (suc n)) (decimal_nonempty (suc n) many) (length-decimal-le 19 (suc n) (omega arith) (omega arith) many)
    (first_decimal (suc n) (omega arith) many)
    ∙ digits_again 0 (decimal (suc n)) (are_digits (suc n) many) ∙ ap Some value

unsigned : (ds : List ℕ) → 0 < length ds → AreDigits ds → number_of ds ≡ option_and_then not_below_zero (natural_of ds)
unsigned [] some h = absurd (omega arith)
unsigned (d ∷ ds) some h =
    let parts = and_parts (is_ascii_digit d) (list_all is_ascii_digit ds) h in
    let digit = parts.0 in
    grind (arith, common_steps)

pub number_again : (z : ℤ) → is_i64 z ≡ true → number_of (signed_decimal z) ≡ Some z
number_again (pos n) h =
    let few : n < 2 ^ 63 = grind (arith, common_steps, ints, h) in
    unsigned (decimal n) (decimal_nonempty n (omega arith)) (are_digits n (omega arith)) ∙ ap (option_and_then not_below_zero) (natural_again n (omega arith))
    ∙ ap (λ (b : Bool). cond b (Some (pos n)) None) h
number_again (negsuc n) h =
    let few : n < 2 ^ 63 = grind (arith, common_steps, ints, h) in
    ap (option_and_then below_zero) (natural_again (suc n) (omega arith)) ∙ ap (λ (b : Bool). cond b None (fitted (negsuc n))) (ne_eqb (suc n) 0 (omega arith))
    ∙ ap (λ (b : Bool). cond b (Some (negsuc n)) None) h
