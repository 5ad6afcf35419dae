-- The numbers of a tuple, read one by one into a list of so many places as a tuple may have.
use Rattle.std.proofs.Common.{◌≡◌, ℕ, ℤ, ◌+◌, ◌<◌, ◌≤◌, List, [], ◌∷◌, ◌++◌, length, take, Option, Some, None, refl, slice_set, arith}
use Rattle.std.specs.Prelude.{◌==◌, option_and_then}
use Rattle.std.specs.List.{slice_split}
use Rattle.std.proofs.lemmas.Grind.{common_steps, take-set_at}
use Rattle.std.proofs.lemmas.List.Splits.{length-slice_split}
use Rattle.aria_base.specs.declared.limits.TheConstants.{LONGEST_TUPLE}
use Rattle.script_text.specs.Numbers.{number_of}
use Rattle.script_text.specs.Tokens.{all_after, fit_tuple}

-- one more number is put behind the others
pub one_more : (numbers : List ℤ) (count : ℕ) (z : ℤ) (front : List ℕ) (parts rest : List (List ℕ)) → count < length numbers → parts ≡ front ∷ rest
    → number_of front ≡ Some z → all_after number_of (take (count + 1) (slice_set numbers count z)) rest ≡ all_after number_of (take count numbers) parts
one_more numbers count z front parts rest room split is = let put = take-set_at numbers count (count + 1) z refl room in rw (split, is, put) refl

-- all that there is stands in what is read
long_after : (done : List ℤ) (xs : List (List ℕ)) → LONGEST_TUPLE < length done + length xs → option_and_then fit_tuple (all_after number_of done xs) ≡ None
long_after done [] h = grind (arith, common_steps, h)
long_after done (x ∷ xs) h = by (number_of x) (λ b. long_after (done ++ b ∷ []) xs (grind (arith, common_steps, h)))
  where
    by : (n : Option ℤ) → ((b : ℤ) → option_and_then fit_tuple (all_after number_of (done ++ b ∷ []) xs) ≡ None)
        → option_and_then fit_tuple (option_and_then (λ b. all_after number_of (done ++ b ∷ []) xs) n) ≡ None
    by None each = refl
    by (Some b) each = each b

-- as many as a tuple has, and something behind them
pub too_long : (done : List ℤ) (rest : List ℕ) → length done ≡ LONGEST_TUPLE
    → option_and_then fit_tuple (all_after number_of done (slice_split (λ b. b == 44) rest)) ≡ None
too_long done rest h =
    let some = length-slice_split (λ b. b == 44) rest in
    long_after done (slice_split (λ b. b == 44) rest) (omega (arith, h, some))

-- few enough
pub few : (done : List ℤ) → 0 < length done → length done ≤ LONGEST_TUPLE → fit_tuple done ≡ Some done
few done some h = grind (arith, common_steps, some, h)
