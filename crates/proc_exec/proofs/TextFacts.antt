-- What is a text: prefixes of two texts joined, and printed numbers.
use Rattle.std.proofs.Common.{◌≡◌, ℕ, ◌<◌, ◌≤◌, ◌+◌, List, ◌∷◌, ◌++◌, length, length-append, take, true, refl, arith, not, Some}
use Rattle.std.specs.Prelude.{zero, suc, slice_index_or}
use Rattle.std.specs.declared.result.Result.TheVariants.{Ok}
use Rattle.std.specs.List.{All, position}
use Rattle.std.specs.Fmt.{decimal, IsBoundedDecimal}
use Rattle.std.proofs.lemmas.Bool.Decides.{nat_tests}
use Rattle.std.proofs.lemmas.Grind.{get_or_default_zero}
use Rattle.std.proofs.lemmas.List.{length-take, take_all}
use Rattle.std.proofs.lemmas.List.Elements.{All-append, All-take}
use Rattle.std.proofs.lemmas.List.Quantifiers.{position-Some}
use Rattle.std.proofs.lemmas.Bool.{le-leb}
use Rattle.aria_base.specs.Texts.{may_hold, IsText}
use Rattle.aria_base.specs.declared.limits.TheConstants.{LONGEST_TEXT}
use Rattle.aria_base.specs.declared.values.Value.TheVariants as value
use Rattle.proc_lang.specs.Values.{joined}

-- no byte of a text is the first that no text holds
pub no_bad_byte : (bytes : List ℕ) (at : ℕ) → IsText bytes → position (λ b. not (may_hold b)) bytes ≡ Some at → ⊥
no_bad_byte bytes at text found =
    let here = position-Some (λ b. not (may_hold b)) bytes at 0 found in
    let good : may_hold (slice_index_or bytes at 0) ≡ true = text.1 at 0 here.0 in
    let bad : not (may_hold (slice_index_or bytes at 0)) ≡ true = here.1 in
    let never : not true ≡ true = rw good at bad in
    cc

pub text_front : (first second : List ℕ) (n : ℕ) → IsText first → IsText second → n ≤ LONGEST_TEXT → IsText (take n (first ++ second))
text_front first second n p q small = (
  omega (arith, length-take n (first ++ second)),
  All-take (λ b. may_hold b ≡ true) n (first ++ second)
      (All-append (λ b. may_hold b ≡ true) first second p.1 q.1),
)

-- two texts joined, where they are not too long
pub joined_whole : (first second : List ℕ) → length first + length second ≤ LONGEST_TEXT
    → joined first second ≡ Ok (value.Text (take LONGEST_TEXT (first ++ second)))
joined_whole first second small =
    let fits : length (first ++ second) ≤ LONGEST_TEXT = omega (arith, length-append first second) in
    rw (le-leb (length (first ++ second)) LONGEST_TEXT fits, take_all LONGEST_TEXT (first ++ second) fits) refl

-- a digit is a byte of a text
digit : (b : ℕ) → 48 ≤ b → b ≤ 57 → may_hold b ≡ true
digit b low high = grind (arith, nat_tests)

digits : (n : ℕ) → IsBoundedDecimal n → All (λ b. may_hold b ≡ true) (decimal n)
digits n bounded k d p =
    let here = bounded.all_digits k p in
    rw (get_or_default_zero (decimal n) k d p) (digit (slice_index_or (decimal n) k 0) here.0 here.1)

pub decimal_is_text : (n : ℕ) → IsBoundedDecimal n → IsText (decimal n)
decimal_is_text n bounded = (omega (arith, bounded.len_u64), digits n bounded)

minus : (n : ℕ) → IsBoundedDecimal n → (k d : ℕ) → k < length (45 ∷ decimal n) → may_hold (slice_index_or (45 ∷ decimal n) k d) ≡ true
minus n bounded zero d p = refl
minus n bounded (suc k) d p = digits n bounded k d (omega arith)

pub minus_is_text : (n : ℕ) → IsBoundedDecimal n → IsText (45 ∷ decimal n)
minus_is_text n bounded = (omega (arith, bounded.len_u64), minus n bounded)
