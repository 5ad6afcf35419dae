-- The tokens of a line: how each is read, and how it is printed. A word is `is_word`, a number `number_of`; the sign is `=`.
use Rattle.std.specs.Prelude.{ℕ, ℤ, ◌-◌, Bool, true, ◌&&◌, ◌==◌, nat_le, if◌then◌else◌, List, [], ◌∷◌, ◌++◌, length, take}
use Rattle.std.specs.Prelude.{slice_index, map, flat_map, Option, Some, None, option_map, option_and_then}
use Rattle.std.specs.List.{slice_split, list_all, join_with_byte}
use Rattle.std.specs.Fmt.{signed_decimal}
use Rattle.aria_base.specs.Texts.{may_hold}
use Rattle.aria_base.specs.declared.limits.TheConstants.{LONGEST_TEXT, SHORTEST_TUPLE, LONGEST_TUPLE}
use Rattle.aria_base.specs.declared.keys.Part.{Part}
use Rattle.aria_base.specs.declared.keys.Part.TheVariants as part
use Rattle.aria_base.specs.declared.values.Value.{Value}
use Rattle.aria_base.specs.declared.values.Value.TheVariants as value
use Rattle.aria_base.specs.declared.calls.Arg.{Arg}
use Rattle.aria_base.specs.declared.calls.Arg.TheVariants as arg
use Rattle.script_text.specs.Numbers.{number_of}

-- all of them, where each is something
abbrev pub all_after : {A B : Type 0} → (A → Option B) → List B → List A → Option (List B)
all_after f done [] = Some done
all_after f done (a ∷ rest) = option_and_then (λ b. all_after f (done ++ b ∷ []) rest) (f a)

abbrev pub all_of : {A B : Type 0} → (A → Option B) → List A → Option (List B)
all_of f xs = all_after f [] xs

-- what stands before this last byte
abbrev pub before_last : ℕ → List ℕ → Option (List ℕ)
before_last b bytes =
    if nat_le 1 (length bytes) && slice_index bytes (length bytes - 1) == b then Some (take (length bytes - 1) bytes) else None

-- ---- a text, between quotes (34)

abbrev pub fit_text : List ℕ → Option (List ℕ)
fit_text bytes = if nat_le (length bytes) LONGEST_TEXT && list_all may_hold bytes then Some bytes else None

-- the text behind its first quote
abbrev pub text_behind : List ℕ → Option (List ℕ)
text_behind rest = option_and_then fit_text (before_last 34 rest)

-- ---- a list: between brackets (91 and 93) tuples of one length with semicolons (59) between them; `[]` is the empty one

abbrev pub fit_tuple : List ℤ → Option (List ℤ)
fit_tuple tuple = if nat_le SHORTEST_TUPLE (length tuple) && nat_le (length tuple) LONGEST_TUPLE then Some tuple else None

-- one to five numbers with commas (44) between them
abbrev pub tuple_of : List ℕ → Option (List ℤ)
tuple_of bytes = option_and_then fit_tuple (all_of number_of (slice_split (λ b. b == 44) bytes))

abbrev pub same_lengths : List (List ℤ) → Bool
same_lengths [] = true
same_lengths (t ∷ ts) = list_all (λ u. length u == length t) ts

abbrev pub fit_list : List (List ℤ) → Option (List (List ℤ))
fit_list tuples = if same_lengths tuples then Some tuples else None

abbrev pub tuples_of : List ℕ → Option (List (List ℤ))
tuples_of [] = Some []
tuples_of (b ∷ bs) = option_and_then fit_list (all_of tuple_of (slice_split (λ b. b == 59) (b ∷ bs)))

-- the list behind its first bracket
abbrev pub list_behind : List ℕ → Option (List (List ℤ))
list_behind rest = option_and_then tuples_of (before_last 93 rest)

-- ---- what a token stands for

-- a part of a key: a text or a number
abbrev pub part_of : List ℕ → Option Part
part_of [] = None
part_of (b ∷ bs) = if b == 34 then option_map part.Text (text_behind bs) else option_map part.Int (number_of (b ∷ bs))

-- a value of a row: a text or a number
abbrev pub value_of : List ℕ → Option Value
value_of [] = None
value_of (b ∷ bs) = if b == 34 then option_map value.Text (text_behind bs) else option_map value.Int (number_of (b ∷ bs))

-- an argument: a text, a list or a number
abbrev pub arg_of : List ℕ → Option Arg
arg_of [] = None
arg_of (b ∷ bs) =
    if b == 34 then option_map arg.Text (text_behind bs)
    else (if b == 91 then option_map arg.List (list_behind bs)
    else option_map arg.Int (number_of (b ∷ bs)))

-- ---- printed

abbrev pub quoted : List ℕ → List ℕ
quoted text = 34 ∷ text ++ 34 ∷ []

abbrev pub tuple_token : List ℤ → List ℕ
tuple_token tuple = join_with_byte 44 (map signed_decimal tuple)

abbrev pub list_token : List (List ℤ) → List ℕ
list_token tuples = 91 ∷ join_with_byte 59 (map tuple_token tuples) ++ 93 ∷ []

abbrev pub part_token : Part → List ℕ
part_token (part.Int number) = signed_decimal number
part_token (part.Text text) = quoted text

abbrev pub value_token : Value → List ℕ
value_token (value.Int number) = signed_decimal number
value_token (value.Text text) = quoted text

abbrev pub arg_token : Arg → List ℕ
arg_token (arg.Int number) = signed_decimal number
arg_token (arg.Text text) = quoted text
arg_token (arg.List tuples) = list_token tuples

-- the tokens of a list, each behind this byte
abbrev pub behind : {X : Type 0} → ℕ → (X → List ℕ) → List X → List ℕ
behind byte token xs = flat_map (λ x. byte ∷ token x) xs

-- each behind one space (32)
abbrev pub spaced : {X : Type 0} → (X → List ℕ) → List X → List ℕ
spaced token xs = behind 32 token xs
