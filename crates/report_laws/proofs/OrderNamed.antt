-- An order line names the requests of its numbers: each is found in the list, and none stands twice.
use Rattle.std.proofs.Common.{◌≡◌, ℕ, ◌+◌, ◌<◌, ◌≤◌, ◌^◌, List, [], ◌∷◌, ◌++◌, map, Bool, true, false, not, cond, Option, Some, None, refl, ap, sym, ◌∙◌, subst, ⊎_elim, arith, append-nil, append_assoc}
use Rattle.std.specs.Prelude.{◌==◌, ◌||◌, decimal, if◌then◌else◌, option_and_then, All}
use Rattle.std.specs.Char.{is_ascii_digit}
use Rattle.std.specs.List.{AllByRecursion, find, list_any, slice_split, sum_by}
use Rattle.std.specs.List.Sorted.{IsPermutation}
use Rattle.std.specs.Str.{bytes_eq}
use Rattle.std.proofs.lemmas.Bool.{cases_Bool, false_from_ne_true, eq-eqb, eqb-true, ne_eqb}
use Rattle.std.proofs.lemmas.Fmt.{decimal_injective}
use Rattle.std.proofs.lemmas.Grind.{common_steps}
use Rattle.std.proofs.lemmas.List.{map-append}
use Rattle.std.proofs.lemmas.List.Sorted.{sum_by-IsPermutation}
use Rattle.std.proofs.lemmas.List.Splits.{slice_split_none, slice_split_at}
use Rattle.std.proofs.lemmas.List.Sums.{sum_by-append, sum_by-cons}
use Rattle.std.proofs.lemmas.Slice.Eq.{bytes_eq-Decides}
use Rattle.aria_base.specs.declared.calls.Request.{Request}
use Rattle.batch_core.specs.Serial.{RiseWithin, request_numbered}
use Rattle.script_text.specs.Tokens.{spaced}
use Rattle.script_text.proofs.NumbersAgain.{are_digits}
use Rattle.script_text.proofs.Places.{all_weaker}
use Rattle.script_text.proofs.Splits.{lacks_all}
use Rattle.serial_check.specs.Lines.{order_word}
use Rattle.serial_check.specs.Orders.{is_written, named_after, order_by, order_of}
use Rattle.serial_check.specs.Serial.{numbers}
use Rattle.report_laws.specs.Printed.{numbers_line}

abbrev pub Small : Request → Type 0
Small request = request.q < 2 ^ 64

pub each_weaker : {X : Type 0} (P Q : X → Type 0) → ((x : X) → P x → Q x) → (xs : List X) → AllByRecursion P xs → AllByRecursion Q xs
each_weaker P Q w [] a = tt
each_weaker P Q w (x ∷ xs) a = (w x a.0, each_weaker P Q w xs a.1)

-- ---- one number is written in one way

same_decimal : (m n : ℕ) → m < 2 ^ 64 → n < 2 ^ 64 → bytes_eq (decimal m) (decimal n) ≡ (m == n)
same_decimal m n a b =
    ⊎_elim
    (λ (e : (m == n) ≡ true). let s : m ≡ n = eqb-true m n e in (bytes_eq-Decides (decimal m) (decimal n)).1 (ap decimal s) ∙ sym e)
    (λ (ne : (m == n) ≡ false). false_from_ne_true (bytes_eq (decimal m) (decimal n)) (λ t.
    let s : m ≡ n = decimal_injective m n a b ((bytes_eq-Decides (decimal m) (decimal n)).0 t) in
    let clash : true ≡ false = sym (eq-eqb m n s) ∙ ne in cc) ∙ sym ne)
    (cases_Bool (m == n))

find_same : (p q : Request → Bool) (xs : List Request) → AllByRecursion (λ x. p x ≡ q x) xs → find p xs ≡ find q xs
find_same p q [] a = refl
find_same p q (x ∷ xs) a = ap (λ b. cond b (Some x) (find p xs)) a.0 ∙ ap (λ o. cond (q x) (Some x) o) (find_same p q xs a.1)

any_same : (p q : Request → Bool) (xs : List Request) → AllByRecursion (λ x. p x ≡ q x) xs → list_any p xs ≡ list_any q xs
any_same p q [] a = refl
any_same p q (x ∷ xs) a = ap (λ b. b || list_any p xs) a.0 ∙ ap (λ b. q x || b) (any_same p q xs a.1)

written_alike : (q : ℕ) → q < 2 ^ 64 → (xs : List Request) → AllByRecursion Small xs → AllByRecursion (λ x. is_written (decimal q) x ≡ (x.q == q)) xs
written_alike q h xs a = each_weaker Small (λ x. is_written (decimal q) x ≡ (x.q == q)) (λ x s. same_decimal x.q q s h) xs a

-- ---- what is found by a number has it

pub found_is : (q : ℕ) (xs : List Request) (r : Request) → AllByRecursion Small xs → request_numbered xs q ≡ Some r → (r.q ≡ q) × (r.q < 2 ^ 64)
found_is q [] r a h = cc
found_is q (x ∷ xs) r a h = by (λ k. found_is q xs r a.1 k) (x.q == q) refl h
  where
    by : (request_numbered xs q ≡ Some r → (r.q ≡ q) × (r.q < 2 ^ 64)) → (b : Bool) → (x.q == q) ≡ b
        → cond b (Some x) (request_numbered xs q) ≡ Some r → (r.q ≡ q) × (r.q < 2 ^ 64)
    by again true e k = let same : x ≡ r = cc in subst (λ (z : Request). (z.q ≡ q) × (z.q < 2 ^ 64)) same (eqb-true x.q q e, a.0)
    by again false e k = again k

pub numbers_are : (list : List Request) (qs : List ℕ) (rs : List Request) → AllByRecursion Small list → map (request_numbered list) qs ≡ map Some rs
    → numbers rs ≡ qs
numbers_are list [] [] a e = refl
numbers_are list [] (r ∷ rs) a e = cc
numbers_are list (q ∷ qs) [] a e = cc
numbers_are list (q ∷ qs) (r ∷ rs) a e =
    let here : request_numbered list q ≡ Some r = cc in
    let more : map (request_numbered list) qs ≡ map Some rs = cc in
    ap (λ n. n ∷ numbers rs) (found_is q list r a here).0 ∙ ap (λ ns. q ∷ ns) (numbers_are list qs rs a more)

-- ---- how often a number stands in a list

abbrev one_if : ℕ → ℕ → ℕ
one_if q n = if n == q then 1 else 0

abbrev pub times : ℕ → List ℕ → ℕ
times q ns = sum_by (one_if q) ns

one_here : (q : ℕ) → one_if q q ≡ 1
one_here q = ap (λ b. if b then 1 else 0) (eq-eqb q q refl)

none_there : (q n : ℕ) → ((n ≡ q) → ⊥) → one_if q n ≡ 0
none_there q n h = ap (λ b. if b then 1 else 0) (ne_eqb n q h)

none_named : (q : ℕ) (done : List Request) → times q (numbers done) ≤ 0 → list_any (λ d. d.q == q) done ≡ false
none_named q [] h = refl
none_named q (d ∷ ds) h = by (λ k. none_named q ds k) (d.q == q) refl
  where
    sum : times q (numbers (d ∷ ds)) ≡ one_if q d.q + times q (numbers ds)
    sum = sum_by-cons (one_if q) d.q (numbers ds)

    by : (times q (numbers ds) ≤ 0 → list_any (λ d. d.q == q) ds ≡ false) → (b : Bool) → (d.q == q) ≡ b
        → (b || list_any (λ d. d.q == q) ds) ≡ false
    by again true e = let one : one_if q d.q ≡ 1 = ap (λ b. if b then 1 else 0) e in absurd (omega (arith, sum, one, h))
    by again false e = again (omega (arith, sum, h))

-- ---- the requests of an order

pub names_all : (list done rs : List Request) (qs : List ℕ) → AllByRecursion Small list → AllByRecursion Small done
    → ((q : ℕ) → times q (numbers done) + times q qs ≤ 1)
    → map (request_numbered list) qs ≡ map Some rs
    → named_after list done (map decimal qs) ≡ Some (done ++ rs)
names_all list done [] [] a d once e = ap Some (sym (append-nil done))
names_all list done (r ∷ rs) [] a d once e = cc
names_all list done [] (q ∷ qs) a d once e = cc
names_all list done (r ∷ rs) (q ∷ qs) a d once e =
    let here : request_numbered list q ≡ Some r = cc in
    let more : map (request_numbered list) qs ≡ map Some rs = cc in
    let is = found_is q list r a here in
    let small : q < 2 ^ 64 = subst (λ n. n < 2 ^ 64) is.0 is.1 in
    let first : times q (q ∷ qs) ≡ one_if q q + times q qs = sum_by-cons (one_if q) q qs in
    let one = one_here q in
    let bound = once q in
    let none : times q (numbers done) ≤ 0 = omega (arith, first, one, bound) in
    let fresh : list_any (is_written (decimal q)) done ≡ false
    = any_same (is_written (decimal q)) (λ x. x.q == q) done (written_alike q small done d) ∙ none_named q done none in
    let found : find (is_written (decimal q)) list ≡ Some r
    = find_same (is_written (decimal q)) (λ x. x.q == q) list (written_alike q small list a) ∙ here in
    let on : Request → Option (List Request) = λ request. named_after list (done ++ request ∷ []) (map decimal qs) in
    ap (λ b. option_and_then on (if b then None else find (is_written (decimal q)) list)) fresh
    ∙ ap (option_and_then on) found
    ∙ names_all list (done ++ r ∷ []) rs qs a (both_small done d r is.1) (still q r is.0 once) more
    ∙ ap Some (append_assoc done (r ∷ []) rs)
  where
    both_small : (ds : List Request) → AllByRecursion Small ds → (r : Request) → r.q < 2 ^ 64 → AllByRecursion Small (ds ++ r ∷ [])
    both_small [] a r h = (h, tt)
    both_small (x ∷ ds) a r h = (a.0, both_small ds a.1 r h)

    still : (q : ℕ) (r : Request) → r.q ≡ q → ((n : ℕ) → times n (numbers done) + times n (q ∷ qs) ≤ 1)
        → (n : ℕ) → times n (numbers (done ++ r ∷ [])) + times n qs ≤ 1
    still q r same once n =
        let parts : numbers (done ++ r ∷ []) ≡ numbers done ++ q ∷ [] = map-append (λ (request : Request). request.q) done (r ∷ [])
        ∙ ap (λ m. numbers done ++ m ∷ []) same in
        let longer : times n (numbers (done ++ r ∷ [])) ≡ times n (numbers done) + times n (q ∷ []) = ap (times n) parts
        ∙ sum_by-append (one_if n) (numbers done) (q ∷ []) in
        let last : times n (q ∷ []) ≡ one_if n q + times n [] = sum_by-cons (one_if n) q [] in
        let none : times n [] ≡ 0 = refl in
        let first : times n (q ∷ qs) ≡ one_if n q + times n qs = sum_by-cons (one_if n) q qs in
        let bound = once n in
        omega (arith, longer, last, none, first, bound)

-- ---- numbers that rise stand once

none_below : (q low : ℕ) (xs : List Request) (high : ℕ) → q ≤ low → RiseWithin (λ request. request.q) low xs high → times q (numbers xs) ≡ 0
none_below q low [] high below r = refl
none_below q low (x ∷ xs) high below r =
    let sum : times q (numbers (x ∷ xs)) ≡ one_if q x.q + times q (numbers xs) = sum_by-cons (one_if q) x.q (numbers xs) in
    let own = r.0 in
    let other : one_if q x.q ≡ 0 = none_there q x.q (λ e. omega (arith, own, below, e)) in
    let rest = none_below q x.q xs high (omega (arith, own, below)) r.1 in
    omega (arith, sum, other, rest)

pub at_most_once : (q low : ℕ) (xs : List Request) (high : ℕ) → RiseWithin (λ request. request.q) low xs high → times q (numbers xs) ≤ 1
at_most_once q low [] high r = omega arith
at_most_once q low (x ∷ xs) high r = by (at_most_once q x.q xs high r.1) (x.q == q) refl
  where
    sum : times q (numbers (x ∷ xs)) ≡ one_if q x.q + times q (numbers xs)
    sum = sum_by-cons (one_if q) x.q (numbers xs)

    by : times q (numbers xs) ≤ 1 → (b : Bool) → (x.q == q) ≡ b → times q (numbers (x ∷ xs)) ≤ 1
    by rest true e =
        let same : x.q ≡ q = eqb-true x.q q e in
        let one : one_if q x.q ≡ 1 = ap (λ b. if b then 1 else 0) e in
        let none = none_below q x.q xs high (omega (arith, same)) r.1 in
        omega (arith, sum, one, none)
    by rest false e =
        let none : one_if q x.q ≡ 0 = ap (λ b. if b then 1 else 0) e in
        omega (arith, sum, none, rest)

-- so does each in a part of such a list, in whatever order
pub once_each : (part rest : List ℕ) (xs : List Request) (high : ℕ) → IsPermutation (part ++ rest) (numbers xs)
    → RiseWithin (λ request. request.q) 0 xs high → (q : ℕ) → times q (numbers []) + times q part ≤ 1
once_each part rest xs high p r q =
    let same : times q (numbers xs) ≡ times q (part ++ rest) = sum_by-IsPermutation (one_if q) (part ++ rest) (numbers xs) p in
    let parts : times q (part ++ rest) ≡ times q part + times q rest = sum_by-append (one_if q) part rest in
    let none : times q (numbers []) ≡ 0 = refl in
    let bound = at_most_once q 0 xs high r in
    omega (arith, same, parts, none, bound)

high_enough : (low : ℕ) (xs : List Request) (high : ℕ) → RiseWithin (λ request. request.q) low xs high → low ≤ high
high_enough low [] high r = r
high_enough low (x ∷ xs) high r = let own = r.0 in let rest = high_enough x.q xs high r.1 in omega (arith, own, rest)

pub all_small : (low : ℕ) (xs : List Request) (high : ℕ) → RiseWithin (λ request. request.q) low xs high → high < 2 ^ 64 → AllByRecursion Small xs
all_small low [] high r h = tt
all_small low (x ∷ xs) high r h = let rest = high_enough x.q xs high r.1 in (omega (arith, rest, h), all_small x.q xs high r.1 h)

-- ---- the line

lacks_space : (n : ℕ) → n < 2 ^ 64 → All (λ b. (b == 32) ≡ false) (decimal n)
lacks_space n h = lacks_all 32 (decimal n) (all_weaker is_ascii_digit (λ b. not (b == 32)) (λ b k. grind (arith, common_steps, k)) (decimal n) (are_digits n h))

split_line : (word : List ℕ) (qs : List ℕ) → All (λ b. (b == 32) ≡ false) word → AllByRecursion (λ q. q < 2 ^ 64) qs
    → slice_split (λ b. b == 32) (word ++ spaced decimal qs) ≡ word ∷ map decimal qs
split_line word [] w a = ap (slice_split (λ b. b == 32)) (append-nil word) ∙ slice_split_none (λ b. b == 32) word w
split_line word (q ∷ qs) w a =
    slice_split_at (λ b. b == 32) word 32 (decimal q ++ spaced decimal qs) w refl
    ∙ ap (λ l. word ∷ l) (split_line (decimal q) qs (lacks_space q a.0) a.1)

small_numbers : (rs : List Request) (list : List Request) (qs : List ℕ) → AllByRecursion Small list → map (request_numbered list) qs ≡ map Some rs
    → AllByRecursion (λ q. q < 2 ^ 64) qs
small_numbers [] list [] a e = tt
small_numbers (r ∷ rs) list [] a e = tt
small_numbers [] list (q ∷ qs) a e = cc
small_numbers (r ∷ rs) list (q ∷ qs) a e =
    let here : request_numbered list q ≡ Some r = cc in
    let more : map (request_numbered list) qs ≡ map Some rs = cc in
    let is = found_is q list r a here in
    (subst (λ n. n < 2 ^ 64) is.0 is.1, small_numbers rs list qs a more)

word_alone : All (λ b. (b == 32) ≡ false) order_word
word_alone = lacks_all 32 order_word refl

pub order_is : (list rs : List Request) (qs : List ℕ) → AllByRecursion Small list → ((q : ℕ) → times q (numbers []) + times q qs ≤ 1)
    → map (request_numbered list) qs ≡ map Some rs → order_of list (numbers_line qs) ≡ Some rs
order_is list rs qs a once e =
    ap (order_by list) (split_line order_word qs word_alone (small_numbers rs list qs a e))
    ∙ names_all list [] rs qs a tt once e
