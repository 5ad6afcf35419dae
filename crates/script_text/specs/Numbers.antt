-- A number of 64 bits with a sign, in its one spelling.
use Rattle.std.specs.Prelude.{ℕ, ◌+◌, ◌-◌, ◌*◌, ◌^◌, ℤ, pos, neg_ℤ, int_le, int_lt, Bool, not, ◌&&◌, ◌||◌, ◌==◌, nat_le}
use Rattle.std.specs.Prelude.{if◌then◌else◌, List, [], ◌∷◌, length, Option, Some, None, option_and_then}
use Rattle.script_text.specs.declared.digits.TheConstants.{MOST_DIGITS}
use Rattle.std.specs.Char.{is_ascii_digit}

-- ---- digits

-- the number that decimal digits write behind those of `front`
abbrev pub digits_after : ℕ → List ℕ → Option ℕ
digits_after front [] = Some front
digits_after front (b ∷ bs) = if is_ascii_digit b then digits_after (10 * front + (b - 48)) bs else None

-- not too many digits, and none behind a `0` (48) at their front
abbrev pub is_short : ℕ → List ℕ → Bool
is_short b bs = nat_le (length (b ∷ bs)) MOST_DIGITS && (not (b == 48) || length bs == 0)

abbrev pub natural_of : List ℕ → Option ℕ
natural_of [] = None
natural_of (b ∷ bs) = if is_short b bs then digits_after 0 (b ∷ bs) else None

-- ---- with a sign

abbrev pub is_i64 : ℤ → Bool
is_i64 z = int_le (neg_ℤ (pos (2 ^ 63))) z && int_lt z (pos (2 ^ 63))

-- the number, where it fits
abbrev pub fitted : ℤ → Option ℤ
fitted z = if is_i64 z then Some z else None

abbrev pub below_zero : ℕ → Option ℤ
below_zero n = if n == 0 then None else fitted (neg_ℤ (pos n))

abbrev pub not_below_zero : ℕ → Option ℤ
not_below_zero n = fitted (pos n)

-- `-` (45) stands before it where it is below zero, and nothing else does
abbrev pub number_of : List ℕ → Option ℤ
number_of [] = None
number_of (b ∷ bs) =
    if b == 45 then option_and_then below_zero (natural_of bs)
    else option_and_then not_below_zero (natural_of (b ∷ bs))
