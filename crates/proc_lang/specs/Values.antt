-- What expressions compute with. Every word is total: where the typing of procedures rules a value out, a plain default stands, 0
-- for a number and the empty text for a text, and a well-typed procedure never meets it.
use Rattle.std.specs.Prelude.{ℕ, ℤ, pos, negsuc, ◌-ℤ◌, ◌*ℤ◌, neg_ℤ, suc, ◌^◌, Bool, false, not, nat_lt, nat_le, if◌then◌else◌}
use Rattle.std.specs.Prelude.{List, [], ◌++◌, length, take, min, Option, Some, None, Result}
use Rattle.std.specs.declared.result.Result.TheVariants.{Ok, Err}
use Rattle.std.specs.Ordering.{int_eq}
use Rattle.std.specs.Int.{int_div_euclid}
use Rattle.std.specs.Str.{bytes_eq}
use Rattle.aria_base.specs.declared.limits.TheConstants.{LONGEST_TEXT}
use Rattle.aria_base.specs.declared.values.Value.{Value}
use Rattle.aria_base.specs.declared.values.Value.TheVariants as value
use Rattle.aria_base.specs.declared.values.Kind.{Kind}
use Rattle.aria_base.specs.declared.values.Kind.TheVariants as kind
use Rattle.aria_base.specs.declared.calls.Arg.{Arg}
use Rattle.aria_base.specs.declared.calls.Arg.TheVariants as arg
use Rattle.proc_lang.specs.declared.ends.Trap.{Trap}
use Rattle.proc_lang.specs.declared.ends.Trap.TheVariants.{Overflow, Zero, Long}

-- what an evaluation comes to
abbrev pub Got : Type 0 → Type 0
Got A = Result A Trap

-- what follows on a result; an error ends it
abbrev pub got : {A B E : Type 0} → Result A E → (A → Result B E) → Result B E
got (Ok x) go = go x
got (Err e) go = Err e

-- the first, then the second; the first error counts
abbrev pub both : {A B E : Type 0} → Result A E → Result B E → Result (A × B) E
both g h = got g (λ x. got h (λ y. Ok (x, y)))

abbrev pub int_of : Value → ℤ
int_of (value.Int n) = n
int_of (value.Text bytes) = pos 0

abbrev pub text_of : Value → List ℕ
text_of (value.Int n) = []
text_of (value.Text bytes) = bytes

-- any number but 0 passes for true
abbrev pub is_true : Value → Bool
is_true v = not (int_eq (int_of v) (pos 0))

abbrev pub truth : Bool → Value
truth b = value.Int (if b then pos 1 else pos 0)

-- with this a register begins, and to this an absent row sets it
abbrev pub blank : Kind → Value
blank kind.Int = value.Int (pos 0)
blank kind.Text = value.Text []

-- no number is equal to a text
abbrev pub same_value : Value → Value → Bool
same_value (value.Int x) (value.Int y) = int_eq x y
same_value (value.Int x) (value.Text y) = false
same_value (value.Text x) (value.Int y) = false
same_value (value.Text x) (value.Text y) = bytes_eq x y

-- a number within the 64-bit numbers
abbrev pub is_i64 : ℤ → Bool
is_i64 (pos n) = nat_lt n (2 ^ 63)
is_i64 (negsuc n) = nat_lt n (2 ^ 63)

abbrev pub number : ℤ → Got Value
number z = if is_i64 z then Ok (value.Int z) else Err Overflow

-- x / y rounded down. By a negative divisor it is that of the two turned round
abbrev pub quotient : ℤ → ℤ → ℤ
quotient x (pos n) = int_div_euclid x (pos n)
quotient x (negsuc n) = int_div_euclid (neg_ℤ x) (pos (suc n))

abbrev pub divided : ℤ → ℤ → Got Value
divided x y = if int_eq y (pos 0) then Err Zero else number (quotient x y)

abbrev pub remainder : ℤ → ℤ → Got Value
remainder x y = if int_eq y (pos 0) then Err Zero else Ok (value.Int (x -ℤ y *ℤ quotient x y))

abbrev pub joined : List ℕ → List ℕ → Got Value
joined x y = if nat_le (length (x ++ y)) LONGEST_TEXT then Ok (value.Text (x ++ y)) else Err Long

abbrev pub front : List ℕ → List ℕ → ℕ → Value
front x y n = value.Text (take (min n LONGEST_TEXT) (x ++ y))

-- a request number is far below 2^63
abbrev pub me_of : ℕ → Value
me_of q = value.Int (pos (if nat_lt q (2 ^ 63) then q else 0))

abbrev pub value_of_arg : Option Arg → Value
value_of_arg (Some (arg.Int n)) = value.Int n
value_of_arg (Some (arg.Text bytes)) = value.Text bytes
value_of_arg (Some (arg.List tuples)) = value.Int (pos 0)
value_of_arg None = value.Int (pos 0)

abbrev pub tuples_of : Option Arg → List (List ℤ)
tuples_of (Some (arg.Int n)) = []
tuples_of (Some (arg.Text bytes)) = []
tuples_of (Some (arg.List tuples)) = tuples
tuples_of None = []
