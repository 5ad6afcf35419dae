-- What is read from a line is written in at most as many bytes: each token has one spelling, and only spaces may stand there more than once.
use Rattle.std.proofs.Common.{◌≡◌, ℕ, zero, suc, ℤ, pos, negsuc, ◌+◌, ◌-◌, ◌*◌, ◌^◌, ◌<◌, ◌≤◌, List, [], ◌∷◌, ◌++◌, length, map, take, get_or, Option, Some, None, Bool, true, false, cond, refl, ap, sym, ◌∙◌, subst, arith, length-append}
use Rattle.std.specs.Prelude.{IfSome, IfOk, not, ◌&&◌, ◌==◌, nat_le, option_map, option_and_then, codes, bytes_eq, ok_or, Result, Ok, Err}
use Rattle.std.specs.List.{list_all, slice_split, position_from, join_with_byte}
use Rattle.std.specs.Char.{is_ascii_digit}
use Rattle.std.specs.Fmt.{signed_decimal}
use Rattle.std.proofs.Math.Nat.{mul_assoc, pow-succ'}
use Rattle.std.proofs.lemmas.Fmt.{length-decimal-le}
use Rattle.std.proofs.lemmas.Grind.{common_steps}
use Rattle.std.proofs.lemmas.Int.{ints}
use Rattle.std.proofs.lemmas.Iterator.Adapters.{position_from-zero}
use Rattle.std.proofs.lemmas.List.{length-take-le}
use Rattle.std.proofs.lemmas.List.Splits.{join_with_byte-slice_split}
use Rattle.std.proofs.lemmas.Nat.{mul-le}
use Rattle.std.proofs.lemmas.Slice.Eq.{bytes_eq-Decides}
use Rattle.aria_base.specs.Texts.{is_word, may_hold}
use Rattle.aria_base.specs.declared.limits.TheConstants.{LONGEST_TEXT, SHORTEST_TUPLE, LONGEST_TUPLE, FEWEST_PARTS, MOST_PARTS, MOST_COLUMNS, MOST_ARGS}
use Rattle.aria_base.specs.declared.keys.Part.{Part}
use Rattle.aria_base.specs.declared.values.Value.{Value}
use Rattle.aria_base.specs.declared.calls.Arg.{Arg}
use Rattle.aria_base.specs.declared.calls.Arg.TheVariants as arg
use Rattle.proc_lang.specs.Catalogs.{Plan, takes}
use Rattle.proc_lang.specs.declared.procs.Proc.{Proc}
use Rattle.script_text.specs.Cuts.{tokens, tokens_from, with_token}
use Rattle.script_text.specs.Fits.{call_of, placed_call, proc_named}
use Rattle.script_text.specs.Forms.{item_of, line_item, only, said, tx_of, with_tx, row_of, row_after, with_row, end_of, with_end, settings_of, catalog_of, report_of, word_of, is_printed}
use Rattle.script_text.specs.Numbers.{below_zero, digits_after, fitted, is_i64, is_short, natural_of, not_below_zero, number_of}
use Rattle.script_text.specs.Tokens.{all_after, all_of, arg_of, arg_token, before_last, fit_list, fit_text, fit_tuple, list_behind, part_of, same_lengths, spaced, text_behind, tuple_of, tuple_token, tuples_of, value_of}
use Rattle.script_text.specs.Written.{call_line, proc_name}
use Rattle.script_text.specs.declared.items.Item.{Item}
use Rattle.script_text.specs.declared.items.Item.TheVariants as item
use Rattle.script_text.specs.declared.refusals.RefusalKind.{RefusalKind}
use Rattle.script_text.specs.declared.refusals.RefusalKind.TheVariants.{Argument, Byte, Word}

-- ---- what holds where there is something

kept : {A : Type 0} (P : A → Type 0) (b : Bool) (o : Option A) → (b ≡ true → IfSome o P) → IfSome (cond b o None) P
kept P true o h = h refl
kept P false o h = tt

either : {A : Type 0} (P : A → Type 0) (b : Bool) (o p : Option A) → (b ≡ true → IfSome o P) → (b ≡ false → IfSome p P) → IfSome (cond b o p) P
either P true o p h k = h refl
either P false o p h k = k refl

then : {A B : Type 0} (P : A → Type 0) (Q : B → Type 0) (f : A → Option B) (o : Option A) → IfSome o P → ((x : A) → P x → IfSome (f x) Q)
    → IfSome (option_and_then f o) Q
then P Q f None h k = tt
then P Q f (Some x) h k = k x h

mapped : {A B : Type 0} (P : A → Type 0) (Q : B → Type 0) (f : A → B) (o : Option A) → IfSome o P → ((x : A) → P x → Q (f x)) → IfSome (option_map f o) Q
mapped P Q f None h k = tt
mapped P Q f (Some x) h k = k x h

-- ---- the bytes of tokens, each with one that parts it from the next

abbrev pub weight : {X : Type 0} → (X → List ℕ) → List X → ℕ
weight token [] = 0
weight token (x ∷ xs) = suc (length (token x)) + weight token xs

weight_behind : {X : Type 0} (token : X → List ℕ) (more xs : List X) → weight token (xs ++ more) ≡ weight token xs + weight token more
weight_behind token more [] = omega arith
weight_behind token more (x ∷ xs) = let h = weight_behind token more xs in omega arith

weight_map : {X : Type 0} (token : X → List ℕ) (xs : List X) → weight (λ t. t) (map token xs) ≡ weight token xs
weight_map token [] = refl
weight_map token (x ∷ xs) = ap (λ n. suc (length (token x)) + n) (weight_map token xs)

weight_spaced : {X : Type 0} (token : X → List ℕ) (xs : List X) → length (spaced token xs) ≡ weight token xs
weight_spaced token [] = refl
weight_spaced token (x ∷ xs) =
    let h = weight_spaced token xs in
    let e = length-append (token x) (spaced token xs) in
    omega arith

-- joined by a byte, one fewer
weight_joined : (c : ℕ) (ts : List (List ℕ)) → length (join_with_byte c ts) ≡ weight (λ t. t) ts - 1
weight_joined c [] = refl
weight_joined c (t ∷ []) = omega arith
weight_joined c (t ∷ u ∷ ts) =
    let h = weight_joined c (u ∷ ts) in
    let e = length-append t (c ∷ join_with_byte c (u ∷ ts)) in
    omega arith

weight_split : (c : ℕ) (bytes : List ℕ) → weight (λ t. t) (slice_split (λ b. b == c) bytes) - 1 ≡ length bytes
weight_split c bytes = sym (weight_joined c (slice_split (λ b. b == c) bytes)) ∙ ap length (join_with_byte-slice_split c bytes)

-- ---- tokens of which each is read, and written in at most its bytes

module _ {X : Type 0} (read : List ℕ → Option X) (token : X → List ℕ) (short : (t : List ℕ) → IfSome (read t) (λ x. length (token x) ≤ length t)) where
  all_after_lighter : (done : List X) (ts : List (List ℕ)) → IfSome (all_after read done ts) (λ xs. weight token xs ≤ weight token done + weight (λ t. t) ts)
  all_after_lighter done [] = omega arith
  all_after_lighter done (t ∷ ts) =
      then (λ x. length (token x) ≤ length t) (λ xs. weight token xs ≤ weight token done + weight (λ t. t) (t ∷ ts)) (λ x. all_after read (done ++ x ∷ []) ts)
      (read t) (short t)
      (λ x few. lighter x few (all_after read (done ++ x ∷ []) ts) (all_after_lighter (done ++ x ∷ []) ts))
    where
      lighter : (x : X) → length (token x) ≤ length t → (o : Option (List X))
          → IfSome o (λ xs. weight token xs ≤ weight token (done ++ x ∷ []) + weight (λ t. t) ts)
          → IfSome o (λ xs. weight token xs ≤ weight token done + weight (λ t. t) (t ∷ ts))
      lighter x few None h = tt
      lighter x few (Some xs) h = let e = weight_behind token (x ∷ []) done in omega arith

  pub all_lighter : (ts : List (List ℕ)) → IfSome (all_of read ts) (λ xs. weight token xs ≤ weight (λ t. t) ts)
  all_lighter ts =
      let whole : 0 + weight (λ t. t) ts ≡ weight (λ t. t) ts = omega arith in
      subst (λ n. IfSome (all_of read ts) (λ xs. weight token xs ≤ n)) whole (all_after_lighter [] ts)

  -- the pieces of a token
  pub pieces_short : (c : ℕ) (bytes : List ℕ) → IfSome (all_of read (slice_split (λ b. b == c) bytes))
      (λ xs. length (join_with_byte c (map token xs)) ≤ length bytes)
  pieces_short c bytes = by (all_of read (slice_split (λ b. b == c) bytes)) (all_lighter (slice_split (λ b. b == c) bytes))
    where
      by : (o : Option (List X)) → IfSome o (λ xs. weight token xs ≤ weight (λ t. t) (slice_split (λ b. b == c) bytes))
          → IfSome o (λ xs. length (join_with_byte c (map token xs)) ≤ length bytes)
      by None h = tt
      by (Some xs) h =
          let whole = weight_split c bytes in
          let joined = weight_joined c (map token xs) in
          let same = weight_map token xs in
          omega arith

-- ---- numbers

one_digit_more : (front digit power n : ℕ) → digit ≤ 9 → n < suc (10 * front + digit) * power → n < suc front * (10 * power)
one_digit_more front digit power n small below =
    let more = mul-le (suc (10 * front + digit)) power (suc front * 10) power (omega arith) (omega arith) in
    let same : suc front * 10 * power ≡ suc front * (10 * power) = mul_assoc (suc front) 10 power in
    omega arith

digits_below : (front : ℕ) (ds : List ℕ) → IfSome (digits_after front ds) (λ n. n < suc front * 10 ^ length ds)
digits_below front [] = omega arith
digits_below front (d ∷ ds) = kept (λ n. n < suc front * 10 ^ length (d ∷ ds)) (is_ascii_digit d) (digits_after (10 * front + (d - 48)) ds)
    (λ digit. by digit (digits_after (10 * front + (d - 48)) ds) (digits_below (10 * front + (d - 48)) ds))
  where
    by : is_ascii_digit d ≡ true → (o : Option ℕ) → IfSome o (λ n. n < suc (10 * front + (d - 48)) * 10 ^ length ds)
        → IfSome o (λ n. n < suc front * 10 ^ length (d ∷ ds))
    by digit None h = tt
    by digit (Some n) h =
        let small : d - 48 ≤ 9 = grind (arith, common_steps, digit) in
        rw pow-succ' (one_digit_more front (d - 48) (10 ^ length ds) n small h)

-- a number that digits write, and there is one
abbrev IsWrittenIn : List ℕ → ℕ → Type 0
IsWrittenIn ds n = (0 < length ds) × (n < 10 ^ length ds)

natural_short : (ds : List ℕ) → IfSome (natural_of ds) (IsWrittenIn ds)
natural_short [] = tt
natural_short (d ∷ ds) = kept (IsWrittenIn (d ∷ ds)) (is_short d ds) (digits_after 0 (d ∷ ds)) (λ few. by (digits_after 0 (d ∷ ds)) (digits_below 0 (d ∷ ds)))
  where
    by : (o : Option ℕ) → IfSome o (λ n. n < 1 * 10 ^ length (d ∷ ds)) → IfSome o (IsWrittenIn (d ∷ ds))
    by None h = tt
    by (Some n) h = (omega arith, omega arith)

number_short : (t : List ℕ) → IfSome (number_of t) (λ z. length (signed_decimal z) ≤ length t)
number_short [] = tt
number_short (b ∷ bs) =
    either (λ z. length (signed_decimal z) ≤ length (b ∷ bs)) (b == 45) (option_and_then below_zero (natural_of bs))
    (option_and_then not_below_zero (natural_of (b ∷ bs)))
    (λ sign. then (IsWrittenIn bs) (λ z. length (signed_decimal z) ≤ length (b ∷ bs)) below_zero (natural_of bs) (natural_short bs) below)
    (λ sign. then (IsWrittenIn (b ∷ bs)) (λ z. length (signed_decimal z) ≤ length (b ∷ bs)) not_below_zero (natural_of (b ∷ bs))
    (natural_short (b ∷ bs)) not_below)
  where
    below : (n : ℕ) → IsWrittenIn bs n → IfSome (below_zero n) (λ z. length (signed_decimal z) ≤ length (b ∷ bs))
    below zero h = tt
    below (suc n) h = either (λ z. length (signed_decimal z) ≤ length (b ∷ bs)) (suc n == 0) None (fitted (negsuc n)) (λ none. tt)
        (λ some. kept (λ z. length (signed_decimal z) ≤ length (b ∷ bs)) (is_i64 (negsuc n)) (Some (negsuc n))
        (λ fits.
        let few : n < 2 ^ 63 = grind (arith, common_steps, ints, fits) in
        let e = length-decimal-le (length bs) (suc n) h.0 h.1 (omega arith) in
        omega arith))

    not_below : (n : ℕ) → IsWrittenIn (b ∷ bs) n → IfSome (not_below_zero n) (λ z. length (signed_decimal z) ≤ length (b ∷ bs))
    not_below n h = kept (λ z. length (signed_decimal z) ≤ length (b ∷ bs)) (is_i64 (pos n)) (Some (pos n))
        (λ fits.
        let few : n < 2 ^ 63 = grind (arith, common_steps, ints, fits) in
        length-decimal-le (length (b ∷ bs)) n h.0 h.1 (omega arith))

-- ---- texts and lists

before_last_short : (b : ℕ) (bytes : List ℕ) → IfSome (before_last b bytes) (λ t. length t + 1 ≤ length bytes)
before_last_short b bytes = kept (λ t. length t + 1 ≤ length bytes) (nat_le 1 (length bytes) && get_or bytes (length bytes - 1) 0 == b)
    (Some (take (length bytes - 1) bytes))
    (λ ends.
    let some : 1 ≤ length bytes = grind (arith, common_steps, ends) in
    let front : length (take (length bytes - 1) bytes) ≡ length bytes - 1 = length-take-le (length bytes - 1) bytes (omega arith) in
    omega arith)

text_short : (bs : List ℕ) → IfSome (text_behind bs) (λ t. length t + 1 ≤ length bs)
text_short bs = then (λ t. length t + 1 ≤ length bs) (λ t. length t + 1 ≤ length bs) fit_text (before_last 34 bs) (before_last_short 34 bs)
    (λ t few. kept (λ u. length u + 1 ≤ length bs) (nat_le (length t) LONGEST_TEXT && list_all may_hold t) (Some t) (λ fits. few))

tuple_short : (t : List ℕ) → IfSome (tuple_of t) (λ zs. length (tuple_token zs) ≤ length t)
tuple_short t = then (λ zs. length (tuple_token zs) ≤ length t) (λ zs. length (tuple_token zs) ≤ length t) fit_tuple
    (all_of number_of (slice_split (λ b. b == 44) t))
    (pieces_short number_of signed_decimal number_short 44 t)
    (λ zs few. kept (λ us. length (tuple_token us) ≤ length t) (nat_le SHORTEST_TUPLE (length zs) && nat_le (length zs) LONGEST_TUPLE) (Some zs) (λ fits. few))

tuples_short : (t : List ℕ) → IfSome (tuples_of t) (λ ts. length (join_with_byte 59 (map tuple_token ts)) ≤ length t)
tuples_short [] = omega arith
tuples_short (b ∷ bs) = then (λ ts. length (join_with_byte 59 (map tuple_token ts)) ≤ length (b ∷ bs))
    (λ ts. length (join_with_byte 59 (map tuple_token ts)) ≤ length (b ∷ bs)) fit_list
    (all_of tuple_of (slice_split (λ c. c == 59) (b ∷ bs)))
    (pieces_short tuple_of tuple_token tuple_short 59 (b ∷ bs))
    (λ ts few. kept (λ us. length (join_with_byte 59 (map tuple_token us)) ≤ length (b ∷ bs)) (same_lengths ts) (Some ts) (λ fits. few))

list_short : (bs : List ℕ) → IfSome (list_behind bs) (λ ts. length (join_with_byte 59 (map tuple_token ts)) + 1 ≤ length bs)
list_short bs = then (λ t. length t + 1 ≤ length bs) (λ ts. length (join_with_byte 59 (map tuple_token ts)) + 1 ≤ length bs) tuples_of (before_last 93 bs)
    (before_last_short 93 bs)
    (λ t few. by t few (tuples_of t) (tuples_short t))
  where
    by : (t : List ℕ) → length t + 1 ≤ length bs → (o : Option (List (List ℤ))) → IfSome o (λ ts. length (join_with_byte 59 (map tuple_token ts)) ≤ length t)
        → IfSome o (λ ts. length (join_with_byte 59 (map tuple_token ts)) + 1 ≤ length bs)
    by t few None h = tt
    by t few (Some ts) h = omega arith

arg_short : (t : List ℕ) → IfSome (arg_of t) (λ a. length (arg_token a) ≤ length t)
arg_short [] = tt
arg_short (b ∷ bs) =
    either (λ a. length (arg_token a) ≤ length (b ∷ bs)) (b == 34) (option_map arg.Text (text_behind bs))
    (cond (b == 91) (option_map arg.List (list_behind bs)) (option_map arg.Int (number_of (b ∷ bs))))
    (λ quote. mapped (λ t. length t + 1 ≤ length bs) (λ a. length (arg_token a) ≤ length (b ∷ bs)) arg.Text (text_behind bs) (text_short bs)
    (λ t few. let e = length-append t (34 ∷ []) in omega arith))
    (λ other. either (λ a. length (arg_token a) ≤ length (b ∷ bs)) (b == 91) (option_map arg.List (list_behind bs)) (option_map arg.Int (number_of (b ∷ bs)))
    (λ bracket. mapped (λ ts. length (join_with_byte 59 (map tuple_token ts)) + 1 ≤ length bs) (λ a. length (arg_token a) ≤ length (b ∷ bs)) arg.List
    (list_behind bs) (list_short bs)
    (λ ts few. let e = length-append (join_with_byte 59 (map tuple_token ts)) (93 ∷ []) in omega arith))
    (λ digit. mapped (λ z. length (signed_decimal z) ≤ length (b ∷ bs)) (λ a. length (arg_token a) ≤ length (b ∷ bs)) arg.Int (number_of (b ∷ bs))
    (number_short (b ∷ bs)) (λ z few. few)))

-- ---- the tokens of a line

with_token_weighs : (t : List ℕ) (more : List (List ℕ)) → weight (λ u. u) (with_token t more) ≤ suc (length t) + weight (λ u. u) more
with_token_weighs [] more = omega arith
with_token_weighs (b ∷ bs) more = omega arith

-- the first token ends here, or goes on
cut_weighs : (space : Bool) (begun : List ℕ) (rest more : List (List ℕ)) (n : ℕ) → weight (λ t. t) rest ≤ suc n
    → weight (λ t. t) more ≤ length begun + 1 + suc n
    → weight (λ t. t) (cond space (with_token begun rest) more) ≤ length begun + suc (suc n)
cut_weighs true begun rest more n here on = let first = with_token_weighs begun rest in omega arith
cut_weighs false begun rest more n here on = omega arith

tokens_weigh : (begun : List ℕ) (in_text : Bool) (line : List ℕ) → weight (λ t. t) (tokens_from begun in_text line) ≤ length begun + suc (length line)
tokens_weigh begun in_text [] = let e = with_token_weighs begun [] in omega arith
tokens_weigh begun in_text (b ∷ bs) =
    let here = tokens_weigh [] false bs in
    let on = tokens_weigh (begun ++ b ∷ []) (cond (b == 34) (not in_text) in_text) bs in
    let e = length-append begun (b ∷ []) in
    cut_weighs (b == 32 && not in_text) begun (tokens_from [] false bs) (tokens_from (begun ++ b ∷ []) (cond (b == 34) (not in_text) in_text) bs) (length bs)
    (omega arith) (omega arith)

-- ---- what a line says

-- a call is written in at most so many bytes
abbrev IsCallWithin : ℕ → Item → Type 0
IsCallWithin n (item.Tx proc args) = 3 + length proc + weight arg_token args ≤ n
IsCallWithin n item.Skip = Unit {0}
IsCallWithin n (item.Catalog name) = Unit {0}
IsCallWithin n (item.Piece piece) = Unit {0}
IsCallWithin n (item.Row table parts row) = Unit {0}
IsCallWithin n (item.End number) = Unit {0}
IsCallWithin n (item.Settings name percent) = Unit {0}
IsCallWithin n item.Report = Unit {0}

any : {A : Type 0} (o : Option A) → IfSome o (λ x. Unit {0})
any None = tt
any (Some x) = tt

tx_within : (kind : List ℕ) (n : ℕ) (rest : List (List ℕ)) → length kind ≡ 2 → weight (λ t. t) (kind ∷ rest) ≤ suc n → IfSome (tx_of rest) (IsCallWithin n)
tx_within kind n [] two whole = tt
tx_within kind n (proc ∷ ts) two whole = kept (IsCallWithin n) (is_word proc) (with_tx proc (all_of arg_of ts))
    (λ word. by (all_of arg_of ts) (all_lighter arg_of arg_token arg_short ts))
  where
    by : (o : Option (List Arg)) → IfSome o (λ args. weight arg_token args ≤ weight (λ t. t) ts) → IfSome (with_tx proc o) (IsCallWithin n)
    by None h = tt
    by (Some args) h = kept (IsCallWithin n) (nat_le (length args) MOST_ARGS) (Some (item.Tx proc args)) (λ few. omega arith)

row_with : (n : ℕ) (table : List ℕ) (parts : List Part) (o : Option (List Value)) → IfSome (with_row table parts o) (IsCallWithin n)
row_with n table parts None = tt
row_with n table parts (Some values) =
    kept (IsCallWithin n) (nat_le FEWEST_PARTS (length parts) && nat_le (length parts) MOST_PARTS && nat_le (length values) MOST_COLUMNS)
    (Some (item.Row table parts values)) (λ fits. tt)

row_behind : (n : ℕ) (table : List ℕ) (parts : List Part) (ts : List (List ℕ)) → IfSome (row_after table parts ts) (IsCallWithin n)
row_behind n table parts [] = tt
row_behind n table parts (t ∷ ts) =
    either (IsCallWithin n) (bytes_eq t (codes "=")) (with_row table parts (all_of value_of ts))
    (option_and_then (λ part. row_after table (parts ++ part ∷ []) ts) (part_of t))
    (λ sign. row_with n table parts (all_of value_of ts))
    (λ other. then (λ part. Unit {0}) (IsCallWithin n) (λ part. row_after table (parts ++ part ∷ []) ts) (part_of t) (any (part_of t))
    (λ part is. row_behind n table (parts ++ part ∷ []) ts))

row_within : (n : ℕ) (ts : List (List ℕ)) → IfSome (row_of ts) (IsCallWithin n)
row_within n [] = tt
row_within n (table ∷ ts) = kept (IsCallWithin n) (is_word table) (row_after table [] ts) (λ word. row_behind n table [] ts)

end_within : (n : ℕ) (ts : List (List ℕ)) → IfSome (end_of ts) (IsCallWithin n)
end_within n ts = by (option_and_then number_of (only ts))
  where
    by : (o : Option ℤ) → IfSome (with_end o) (IsCallWithin n)
    by None = tt
    by (Some (negsuc m)) = tt
    by (Some (pos m)) = either (IsCallWithin n) (m == 0) None (Some (item.End m)) (λ none. tt) (λ some. tt)

settings_within : (n : ℕ) (ts : List (List ℕ)) → IfSome (settings_of ts) (IsCallWithin n)
settings_within n [] = tt
settings_within n (name ∷ ts) = kept (IsCallWithin n) (is_word name) (option_map (item.Settings name) (option_and_then number_of (only ts)))
    (λ word. mapped (λ z. Unit {0}) (IsCallWithin n) (item.Settings name) (option_and_then number_of (only ts)) (any (option_and_then number_of (only ts)))
    (λ z is. tt))

catalog_within : (n : ℕ) (ts : List (List ℕ)) → IfSome (catalog_of ts) (IsCallWithin n)
catalog_within n ts = mapped (λ name. Unit {0}) (IsCallWithin n) item.Catalog (option_and_then word_of (only ts)) (any (option_and_then word_of (only ts)))
    (λ name is. tt)

report_within : (n : ℕ) (ts : List (List ℕ)) → IfSome (report_of ts) (IsCallWithin n)
report_within n [] = tt
report_within n (t ∷ ts) = tt

same_length : (xs ys : List ℕ) → bytes_eq xs ys ≡ true → length xs ≡ length ys
same_length xs ys same = ap length ((bytes_eq-Decides xs ys).0 same)

item_within : (n : ℕ) (ts : List (List ℕ)) → weight (λ t. t) ts ≤ suc n → IfSome (item_of ts) (IsCallWithin n)
item_within n [] whole = tt
item_within n (kind ∷ rest) whole =
    either (IsCallWithin n) (bytes_eq kind (codes "tx")) (tx_of rest) _ (λ is. tx_within kind n rest (same_length kind (codes "tx") is) whole)
    (λ other. either (IsCallWithin n) (bytes_eq kind (codes "row")) (row_of rest) _ (λ is. row_within n rest)
    (λ other. either (IsCallWithin n) (bytes_eq kind (codes "end")) (end_of rest) _ (λ is. end_within n rest)
    (λ other. either (IsCallWithin n) (bytes_eq kind (codes "settings")) (settings_of rest) _ (λ is. settings_within n rest)
    (λ other. either (IsCallWithin n) (bytes_eq kind (codes "catalog")) (catalog_of rest) _ (λ is. catalog_within n rest)
    (λ other. kept (IsCallWithin n) (bytes_eq kind (codes "report")) (report_of rest) (λ is. report_within n rest))))))

line_within : (line : List ℕ) → IfSome (line_item line) (IsCallWithin (length line))
line_within [] = tt
line_within (b ∷ bs) =
    either (IsCallWithin (length (b ∷ bs))) (b == 35) (Some item.Skip) _ (λ is. tt)
    (λ other. either (IsCallWithin (length (b ∷ bs))) (b == 58) (Some (item.Piece bs)) _ (λ is. tt)
    (λ other. either (IsCallWithin (length (b ∷ bs))) (b == 32) (cond (list_all (λ c. c == 32) bs) (Some item.Skip) None) (item_of (tokens (b ∷ bs)))
    (λ is. kept (IsCallWithin (length (b ∷ bs))) (list_all (λ c. c == 32) bs) (Some item.Skip) (λ blank. tt))
    (λ other. let whole = tokens_weigh [] false (b ∷ bs) in item_within (length (b ∷ bs)) (tokens (b ∷ bs)) (omega arith))))

said_within : (line : List ℕ) → IfOk (said line) (IsCallWithin (length line))
said_within line = by (is_printed line) (line_item line) (line_within line)
  where
    by : (printed : Bool) (o : Option Item) → IfSome o (IsCallWithin (length line)) → IfOk (cond printed (ok_or o Word) (Err Byte)) (IsCallWithin (length line))
    by false o h = tt
    by true None h = tt
    by true (Some i) h = h

-- a line that says a call
pub call_within : (line proc : List ℕ) (args : List Arg) → said line ≡ Ok (item.Tx proc args) → 3 + length proc + weight arg_token args ≤ length line
call_within line proc args says = subst (λ (r : Result Item RefusalKind). IfOk r (IsCallWithin (length line))) says (said_within line)

-- ---- its name in the catalogue

named_from : (procs : List Proc) (name : List ℕ) (i : ℕ) → IfSome (position_from (λ p. bytes_eq p.name name) i procs)
    (λ n. (i ≤ n) × (length (proc_name procs (n - i)) ≡ length name))
named_from [] name i = tt
named_from (p ∷ procs) name i =
    either (λ n. (i ≤ n) × (length (proc_name (p ∷ procs) (n - i)) ≡ length name)) (bytes_eq p.name name) (Some i)
    (position_from (λ p. bytes_eq p.name name) (i + 1) procs)
    (λ is. (omega arith, let none : i - i ≡ zero = omega arith in rw none (same_length p.name name is)))
    (λ other. by (position_from (λ p. bytes_eq p.name name) (i + 1) procs) (named_from procs name (i + 1)))
  where
    by : (o : Option ℕ) → IfSome o (λ n. (i + 1 ≤ n) × (length (proc_name procs (n - (i + 1))) ≡ length name))
        → IfSome o (λ n. (i ≤ n) × (length (proc_name (p ∷ procs) (n - i)) ≡ length name))
    by None h = tt
    by (Some n) h =
        let more : i + 1 ≤ n = h.0 in
        let one : n - i ≡ suc (n - (i + 1)) = omega arith in
        (omega arith, rw one h.1)

named : (plan : Plan) (name : List ℕ) → IfSome (proc_named plan name) (λ n. length (proc_name plan.procs n) ≡ length name)
named plan name = subst (λ (o : Option ℕ). IfSome o (λ n. length (proc_name plan.procs n) ≡ length name))
    (sym (position_from-zero (λ p. bytes_eq p.name name) plan.procs))
    (by (position_from (λ p. bytes_eq p.name name) 0 plan.procs) (named_from plan.procs name 0))
  where
    by : (o : Option ℕ) → IfSome o (λ n. (0 ≤ n) × (length (proc_name plan.procs (n - 0)) ≡ length name))
        → IfSome o (λ n. length (proc_name plan.procs n) ≡ length name)
    by None h = tt
    by (Some n) h = let same : n - 0 ≡ n = omega arith in subst (λ (m : ℕ). length (proc_name plan.procs m) ≡ length name) same h.1

-- under a catalogue a call is written in no more bytes than it was said in
pub placed_within : (plan : Plan) (name : List ℕ) (args : List Arg) (n : ℕ) → 3 + length name + weight arg_token args ≤ n
    → IfOk (placed_call plan name args) (λ call. length (call_line plan.procs call) ≤ n)
placed_within plan name args n whole = by (proc_named plan name) (named plan name)
  where
    by : (o : Option ℕ) → IfSome o (λ proc. length (proc_name plan.procs proc) ≡ length name)
        → IfOk (call_of plan args o) (λ call. length (call_line plan.procs call) ≤ n)
    by None h = tt
    by (Some proc) h = elim (takes plan (record { proc = proc; args = args })) as (λ b. IfOk (cond b (Ok (record { proc = proc; args = args })) (Err Argument))
        (λ call. length (call_line plan.procs call) ≤ n)) [
          | false ↦ tt
          | true ↦
              let front = length-append (codes "tx " ++ proc_name plan.procs proc) (spaced arg_token args) in
              let name = length-append (codes "tx ") (proc_name plan.procs proc) in
              let behind = weight_spaced arg_token args in
              omega arith
        ]
