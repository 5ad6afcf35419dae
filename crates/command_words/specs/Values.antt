-- What the texts of a line's options stand for.
use Rattle.std.specs.Prelude.{ℕ, ◌+◌, ◌-◌, ◌*◌, Bool, false, not, ◌&&◌, ◌||◌, ◌==◌, nat_le, if◌then◌else◌, List, [], ◌∷◌, length}
use Rattle.std.specs.Prelude.{Option, Some, None, option_and_then, codes, bytes_eq}
use Rattle.std.specs.Char.{is_ascii_digit}
use Rattle.command_words.specs.Lines.{Line, text_in}

-- ---- numbers

-- the number that decimal digits write behind those of `front`
abbrev pub digits_after : ℕ → List ℕ → Option ℕ
digits_after front [] = Some front
digits_after front (b ∷ bs) = if is_ascii_digit b then digits_after (10 * front + (b - 48)) bs else None

-- one to seven digits, none of them behind a `0` (48) at the front
abbrev pub number_of : List ℕ → Option ℕ
number_of [] = None
number_of (b ∷ bs) = if nat_le (length bs) 6 && (not (b == 48) || length bs == 0) then digits_after 0 (b ∷ bs) else None

-- an option whose value is a number from `low` to `high`, and `usual` where the line does not give it
pub record Range : Type 0 where
  pub name : List ℕ
  pub low : ℕ
  pub high : ℕ
  pub usual : ℕ

abbrev pub within : Range → ℕ → Option ℕ
within range n = if nat_le range.low n && nat_le n range.high then Some n else None

abbrev pub number_or : Range → Option (List ℕ) → Option ℕ
number_or range None = Some range.usual
number_or range (Some text) = option_and_then (within range) (number_of text)

abbrev pub number_in : Line → Range → Option ℕ
number_in l range = number_or range (text_in l range.name)

-- ---- words

-- an option whose value is one of two words, each with what it stands for; the first where the line does not give it
pub record Choice (T : Type 0) : Type 0 where
  pub name : List ℕ
  pub usual : List ℕ × T
  pub other : List ℕ × T

abbrev pub choice_or : {T : Type 0} → Choice T → Option (List ℕ) → Option T
choice_or choice None = Some choice.usual.1
choice_or choice (Some text) =
    if bytes_eq text choice.usual.0 then Some choice.usual.1
    else (if bytes_eq text choice.other.0 then Some choice.other.1 else None)

abbrev pub choice_in : {T : Type 0} → Line → Choice T → Option T
choice_in l choice = choice_or choice (text_in l choice.name)

-- ---- flags

abbrev pub is_on : Option (List ℕ) → Bool
is_on None = false
is_on (Some text) = bytes_eq text (codes "true")

abbrev pub flag_in : Line → List ℕ → Bool
flag_in l name = is_on (text_in l name)
