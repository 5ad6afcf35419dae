-- What a token is printed of is what it stands for.
use Rattle.std.proofs.Common.{◌≡◌, ℕ, suc, ℤ, pos, negsuc, ◌-◌, ◌<◌, ◌≤◌, ◌^◌, List, [], ◌∷◌, ◌++◌, length, map, take, drop, get_or, Option, Some, None, Bool, true, false, cond, refl, ap, sym, ◌∙◌, arith}
use Rattle.std.specs.Prelude.{All, not, ◌||◌, ◌==◌, nat_le, option_map, option_and_then, codes, bytes_eq, Result, Ok, Err, OnOk}
use Rattle.std.specs.List.{list_all, slice_split, join_with_byte}
use Rattle.std.specs.Char.{is_ascii_digit}
use Rattle.std.specs.Fmt.{decimal, signed_decimal}
use Rattle.std.proofs.lemmas.Bool.{and_parts, and_from, eq-eqb, le-leb}
use Rattle.std.proofs.lemmas.Int.{ints}
use Rattle.std.proofs.lemmas.List.{append_assoc, append-nil}
use Rattle.std.proofs.lemmas.List.Elements.{All-head, All-tail, All-map}
use Rattle.std.proofs.lemmas.List.Splits.{slice_split_none, slice_split_at}
use Rattle.std.proofs.lemmas.List.Sums.{list_all-from_AllPass}
use Rattle.std.proofs.lemmas.Fmt.{decimal_nonempty}
use Rattle.std.proofs.lemmas.Grind.{common_steps}
use Rattle.aria_base.specs.Texts.{IsText, may_hold}
use Rattle.aria_base.specs.declared.limits.TheConstants.{LONGEST_TEXT}
use Rattle.aria_base.specs.declared.keys.Part.{Part}
use Rattle.aria_base.specs.declared.keys.Part.TheVariants as part
use Rattle.aria_base.specs.declared.values.Value.{Value}
use Rattle.aria_base.specs.declared.values.Value.TheVariants as value
use Rattle.aria_base.specs.declared.calls.Arg.{Arg}
use Rattle.aria_base.specs.declared.calls.Arg.TheVariants as arg
use Rattle.script_text.specs.Cuts.{Lacks}
use Rattle.script_text.specs.Numbers.{is_i64, number_of}
use Rattle.script_text.specs.Tokens.{behind, tuple_token, list_token, part_token, value_token, arg_token, all_after, all_of, before_last, fit_tuple, tuple_of, same_lengths, fit_list, tuples_of, text_behind, part_of, value_of, arg_of}
use Rattle.script_text.specs.Written.{IsPart, IsValue, IsTuple, IsArg, is_alike}
use Rattle.script_text.proofs.NumbersAgain.{are_digits, number_again}
use Rattle.script_text.proofs.Places.{all_weaker, all_joined}
use Rattle.script_text.proofs.Splits.{lacks_all}
use Rattle.script_text.proofs.TokensAgain.{IsToken, is_plain, plain_token, text_token}

-- ---- lists

all_after_again : {A B : Type 0} (f : B → Option A) (g : A → B) (Is : A → Type 0) → ((x : A) → Is x → f (g x) ≡ Some x) → (done xs : List A) → All Is xs
    → all_after f done (map g xs) ≡ Some (done ++ xs)
all_after_again f g Is again done [] h = ap Some (sym (append-nil done))
all_after_again f g Is again done (x ∷ xs) h =
    let e = again x (All-head Is x xs h) in
    rw e (all_after_again f g Is again (done ++ x ∷ []) xs (All-tail Is x xs h) ∙ ap Some (append_assoc done (x ∷ []) xs))

pub all_of_again : {A B : Type 0} (f : B → Option A) (g : A → B) (Is : A → Type 0) → ((x : A) → Is x → f (g x) ≡ Some x) → (xs : List A) → All Is xs
    → all_of f (map g xs) ≡ Some xs
all_of_again f g Is again xs h = all_after_again f g Is again [] xs h

pub all_mapped : {A B : Type 0} (Is : A → Type 0) (Is_too : B → Type 0) (g : A → B) → ((x : A) → Is x → Is_too (g x)) → (xs : List A) → All Is xs
    → All Is_too (map g xs)
all_mapped Is Is_too g each xs h = All-map Is_too g xs (λ i y below. each (get_or xs i y) (h i y below))

split_again : (c : ℕ) (x : List ℕ) (xs : List (List ℕ)) → All (Lacks c) (x ∷ xs) → slice_split (λ b. b == c) (join_with_byte c (x ∷ xs)) ≡ x ∷ xs
split_again c x [] h = slice_split_none (λ b. b == c) x (lacks_all c x (All-head (Lacks c) x [] h))
split_again c x (y ∷ xs) h =
    slice_split_at (λ b. b == c) x c (join_with_byte c (y ∷ xs)) (lacks_all c x (All-head (Lacks c) x (y ∷ xs) h)) (eq-eqb c c refl)
    ∙ ap (λ (l : List (List ℕ)). x ∷ l) (split_again c y xs (All-tail (Lacks c) x (y ∷ xs) h))

all_in_join : (p : ℕ → Bool) (c : ℕ) → p c ≡ true → (x : List ℕ) (xs : List (List ℕ)) → All (λ t. list_all p t ≡ true) (x ∷ xs)
    → list_all p (join_with_byte c (x ∷ xs)) ≡ true
all_in_join p c at x [] h = All-head (λ t. list_all p t ≡ true) x [] h
all_in_join p c at x (y ∷ xs) h =
    let rest = all_in_join p c at y xs (All-tail (λ t. list_all p t ≡ true) x (y ∷ xs) h) in
    all_joined p x (c ∷ join_with_byte c (y ∷ xs)) (All-head (λ t. list_all p t ≡ true) x (y ∷ xs) h)
    (and_from (p c) (list_all p (join_with_byte c (y ∷ xs))) at rest)

some_in_join : (c : ℕ) (x : List ℕ) (xs : List (List ℕ)) → 0 < length x → 0 < length (join_with_byte c (x ∷ xs))
some_in_join c x [] some = some
some_in_join c [] (y ∷ xs) some = absurd (omega arith)
some_in_join c (b ∷ x) (y ∷ xs) some = omega arith

-- ---- numbers

abbrev pub is_numeric : ℕ → Bool
is_numeric b = is_ascii_digit b || b == 45

pub numeric : (z : ℤ) → is_i64 z ≡ true → list_all is_numeric (signed_decimal z) ≡ true
numeric (pos n) h = all_weaker is_ascii_digit is_numeric (λ b k. grind (arith, common_steps, k)) (decimal n)
    (are_digits n (let few : n < 2 ^ 63 = grind (arith, common_steps, ints, h) in omega arith))
numeric (negsuc n) h = all_weaker is_ascii_digit is_numeric (λ b k. grind (arith, common_steps, k)) (decimal (suc n))
    (are_digits (suc n) (let few : n < 2 ^ 63 = grind (arith, common_steps, ints, h) in omega arith))

pub some_number : (z : ℤ) → is_i64 z ≡ true → 0 < length (signed_decimal z)
some_number (pos n) h = decimal_nonempty n (let few : n < 2 ^ 63 = grind (arith, common_steps, ints, h) in omega arith)
some_number (negsuc n) h = omega arith

number_token : (z : ℤ) → is_i64 z ≡ true → IsToken (signed_decimal z)
number_token z h = plain_token (signed_decimal z) (some_number z h)
    (all_weaker is_numeric is_plain (λ b k. grind (arith, common_steps, k)) (signed_decimal z) (numeric z h))

-- ---- texts

before_last_again : (b : ℕ) (t : List ℕ) → before_last b (t ++ b ∷ []) ≡ Some t
before_last_again b t = grind (arith, common_steps)

text_again : (t : List ℕ) → IsText t → text_behind (t ++ 34 ∷ []) ≡ Some t
text_again t h =
    let few = le-leb (length t) LONGEST_TEXT h.0 in
    let held = list_all-from_AllPass may_hold t h.1 in
    let e = before_last_again 34 t in
    rw (e, few, held)

-- ---- lists of tuples

tuple_bytes : (t : List ℤ) → IsTuple t → list_all (λ b. is_numeric b || b == 44) (tuple_token t) ≡ true
tuple_bytes [] h = refl
tuple_bytes (z ∷ zs) h = all_in_join (λ b. is_numeric b || b == 44) 44 refl (signed_decimal z) (map signed_decimal zs)
    (all_mapped (λ z. is_i64 z ≡ true) (λ t. list_all (λ b. is_numeric b || b == 44) t ≡ true) signed_decimal
    (λ z k. all_weaker is_numeric (λ b. is_numeric b || b == 44) (λ b m. grind (arith, common_steps, m)) (signed_decimal z) (numeric z k)) (z ∷ zs) h.2)

some_tuple : (t : List ℤ) → IsTuple t → 0 < length (tuple_token t)
some_tuple [] h = absurd (omega arith)
some_tuple (z ∷ zs) h = some_in_join 44 (signed_decimal z) (map signed_decimal zs) (some_number z (All-head (λ z. is_i64 z ≡ true) z zs h.2))

tuple_again : (t : List ℤ) → IsTuple t → tuple_of (tuple_token t) ≡ Some t
tuple_again [] h = absurd (omega arith)
tuple_again (z ∷ zs) h =
    let low = le-leb 1 (length (z ∷ zs)) h.0 in
    let high = le-leb (length (z ∷ zs)) 5 h.1 in
    ap (λ (parts : List (List ℕ)). option_and_then fit_tuple (all_of number_of parts)) (split_again 44 (signed_decimal z) (map signed_decimal zs)
    (all_mapped (λ z. is_i64 z ≡ true) (Lacks 44) signed_decimal
    (λ z k. all_weaker is_numeric (λ b. not (b == 44)) (λ b m. grind (arith, common_steps, m)) (signed_decimal z) (numeric z k)) (z ∷ zs) h.2))
    ∙ ap (option_and_then fit_tuple) (all_of_again number_of signed_decimal (λ z. is_i64 z ≡ true) number_again (z ∷ zs) h.2)
    ∙ ap (λ (b : Bool). cond b (Some (z ∷ zs)) None) (and_from (nat_le 1 (length (z ∷ zs))) (nat_le (length (z ∷ zs)) 5) low high)

listed : (bs : List ℕ) → 0 < length bs → tuples_of bs ≡ option_and_then fit_list (all_of tuple_of (slice_split (λ b. b == 59) bs))
listed [] some = absurd (omega arith)
listed (b ∷ bs) some = refl

tuples_again : (ts : List (List ℤ)) → All IsTuple ts → same_lengths ts ≡ true → tuples_of (join_with_byte 59 (map tuple_token ts)) ≡ Some ts
tuples_again [] h same = refl
tuples_again (t ∷ ts) h same =
    listed (join_with_byte 59 (map tuple_token (t ∷ ts))) (some_in_join 59 (tuple_token t) (map tuple_token ts) (some_tuple t (All-head IsTuple t ts h)))
    ∙ ap (λ (parts : List (List ℕ)). option_and_then fit_list (all_of tuple_of parts)) (split_again 59 (tuple_token t) (map tuple_token ts)
    (all_mapped IsTuple (Lacks 59) tuple_token (λ t k. all_weaker (λ b. is_numeric b || b == 44) (λ b. not (b == 59)) (λ b m. grind (arith, common_steps, m))
    (tuple_token t) (tuple_bytes t k)) (t ∷ ts) h))
    ∙ ap (option_and_then fit_list) (all_of_again tuple_of tuple_token IsTuple tuple_again (t ∷ ts) h)
    ∙ ap (λ (b : Bool). cond b (Some (t ∷ ts)) None) same

tuples_plain : (ts : List (List ℤ)) → All IsTuple ts → list_all is_plain (join_with_byte 59 (map tuple_token ts)) ≡ true
tuples_plain [] h = refl
tuples_plain (t ∷ ts) h = all_in_join is_plain 59 refl (tuple_token t) (map tuple_token ts)
    (all_mapped IsTuple (λ t. list_all is_plain t ≡ true) tuple_token
    (λ t k. all_weaker (λ b. is_numeric b || b == 44) is_plain (λ b m. grind (arith, common_steps, m)) (tuple_token t) (tuple_bytes t k)) (t ∷ ts) h)

-- ---- parts, values, arguments

value_by : (bs : List ℕ) → 0 < length bs → list_all is_numeric bs ≡ true → value_of bs ≡ option_map value.Int (number_of bs)
value_by [] some h = absurd (omega arith)
value_by (b ∷ bs) some h = let first = (and_parts (is_numeric b) (list_all is_numeric bs) h).0 in grind (arith, common_steps, first)

part_by : (bs : List ℕ) → 0 < length bs → list_all is_numeric bs ≡ true → part_of bs ≡ option_map part.Int (number_of bs)
part_by [] some h = absurd (omega arith)
part_by (b ∷ bs) some h = let first = (and_parts (is_numeric b) (list_all is_numeric bs) h).0 in grind (arith, common_steps, first)

arg_by : (bs : List ℕ) → 0 < length bs → list_all is_numeric bs ≡ true → arg_of bs ≡ option_map arg.Int (number_of bs)
arg_by [] some h = absurd (omega arith)
arg_by (b ∷ bs) some h = let first = (and_parts (is_numeric b) (list_all is_numeric bs) h).0 in grind (arith, common_steps, first)

no_sign : (bs : List ℕ) → 0 < length bs → list_all is_numeric bs ≡ true → bytes_eq bs (codes "=") ≡ false
no_sign [] some h = absurd (omega arith)
no_sign (b ∷ bs) some h = let first = (and_parts (is_numeric b) (list_all is_numeric bs) h).0 in grind (arith, common_steps, first)

pub part_again : (p : Part) → IsPart p → part_of (part_token p) ≡ Some p
part_again (part.Int z) h = part_by (signed_decimal z) (some_number z h) (numeric z h) ∙ ap (option_map part.Int) (number_again z h)
part_again (part.Text t) h = ap (option_map part.Text) (text_again t h)

pub value_again : (v : Value) → IsValue v → value_of (value_token v) ≡ Some v
value_again (value.Int z) h = value_by (signed_decimal z) (some_number z h) (numeric z h) ∙ ap (option_map value.Int) (number_again z h)
value_again (value.Text t) h = ap (option_map value.Text) (text_again t h)

abbrev pub IsWhole : Arg → Type 0
IsWhole a = IsArg a × (is_alike a ≡ true)

pub arg_again : (a : Arg) → IsWhole a → arg_of (arg_token a) ≡ Some a
arg_again (arg.Int z) h = arg_by (signed_decimal z) (some_number z h.0) (numeric z h.0) ∙ ap (option_map arg.Int) (number_again z h.0)
arg_again (arg.Text t) h = ap (option_map arg.Text) (text_again t h.0)
arg_again (arg.List ts) h =
    ap (λ (o : Option (List ℕ)). option_map arg.List (option_and_then tuples_of o)) (before_last_again 93 (join_with_byte 59 (map tuple_token ts)))
    ∙ ap (option_map arg.List) (tuples_again ts h.0 h.1)

pub part_is_token : (p : Part) → IsPart p → IsToken (part_token p)
part_is_token (part.Int z) h = number_token z h
part_is_token (part.Text t) h = text_token t (list_all-from_AllPass may_hold t h.1)

pub value_is_token : (v : Value) → IsValue v → IsToken (value_token v)
value_is_token (value.Int z) h = number_token z h
value_is_token (value.Text t) h = text_token t (list_all-from_AllPass may_hold t h.1)

pub arg_is_token : (a : Arg) → IsWhole a → IsToken (arg_token a)
arg_is_token (arg.Int z) h = number_token z h.0
arg_is_token (arg.Text t) h = text_token t (list_all-from_AllPass may_hold t h.0.1)
arg_is_token (arg.List ts) h = plain_token (list_token ts) (omega arith)
    (all_joined is_plain (join_with_byte 59 (map tuple_token ts)) (93 ∷ []) (tuples_plain ts h.0) refl)

pub part_no_sign : (p : Part) → IsPart p → bytes_eq (part_token p) (codes "=") ≡ false
part_no_sign (part.Int z) h = no_sign (signed_decimal z) (some_number z h) (numeric z h)
part_no_sign (part.Text t) h = refl

join_behind : {X : Type 0} (c : ℕ) (f : X → List ℕ) (x : X) (xs : List X) → join_with_byte c (map f (x ∷ xs)) ≡ f x ++ behind c f xs
join_behind c f x [] = sym (append-nil (f x))
join_behind c f x (y ∷ ys) = ap (λ (l : List ℕ). f x ++ c ∷ l) (join_behind c f y ys)

pub joined_with : {X T E : Type 0} (r : Result T E) (c : ℕ) (f : X → List ℕ) (old mid new : List ℕ) (d : X) (items : List X) → 1 ≤ length items
    → mid ≡ old ++ f (get_or items 0 d) → OnOk r (new ≡ mid ++ behind c f (take (length items - 1) (drop 1 items)))
    → OnOk r (new ≡ old ++ join_with_byte c (map f items))
joined_with (Err e) c f old mid new d items some h k = tt
joined_with (Ok t) c f old mid new d [] some h k = absurd (omega arith)
joined_with {X = X} (Ok t) c f old mid new d (x ∷ xs) some h k =
    let e : take (length (x ∷ xs) - 1) xs ≡ xs = grind (arith, common_steps) in
    k ∙ ap (λ (ys : List X). mid ++ behind c f ys) e ∙ ap (λ (m : List ℕ). m ++ behind c f xs) h ∙ append_assoc old (f x) (behind c f xs)
    ∙ ap (λ (l : List ℕ). old ++ l) (sym (join_behind c f x xs))
