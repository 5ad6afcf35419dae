-- What stands at a gate, by the bytes from it on.
use Rattle.std.proofs.Common.{◌≡◌, ◌≢◌, ℕ, ◌+◌, ◌<◌, ◌≤◌, List, [], ◌∷◌, ◌++◌, length, take, drop, Bool, true, false, refl, sym, ◌∙◌, subst, ap, arith, length-append, length-drop}
use Rattle.std.specs.Prelude.{◌==◌, nat_lt, if◌then◌else◌}
use Rattle.std.proofs.lemmas.Bool.Decides.{nat_tests}
use Rattle.std.proofs.lemmas.List.{take-append-drop, take_at, take-take, length-take-le}
use Rattle.byteorder.specs.Endian.{little_number}
use Rattle.input_log.specs.Layout.{Closed, Open, Broken, next_of}

both : (b c : Bool) (p q : List ℕ) → (if b then (if c then Open q else Broken) else Closed) ≡ Open p → (b ≡ true) × (c ≡ true) × (q ≡ p)
both true true p q e = (refl, refl, cc e)
both true false p q e = absurd (cc e)
both false c p q e = absurd (cc e)

shut : (b c : Bool) (q : List ℕ) → (if b then (if c then Open q else Broken) else Closed) ≡ Closed → b ≡ false
shut true true q e = absurd (cc e)
shut true false q e = absurd (cc e)
shut false c q e = refl

-- an open gate, the payload's length, the payload and something behind it
pub record Opened (bytes payload : List ℕ) : Type 0 where
  pub a : ℕ
  pub b : ℕ
  pub c : ℕ
  pub d : ℕ
  pub behind : List ℕ
  pub split : bytes ≡ (1 ∷ a ∷ b ∷ c ∷ d ∷ payload) ++ behind
  pub more : 0 < length behind
  pub size : little_number 4 (a ∷ b ∷ c ∷ d ∷ []) ≡ length payload

opened_rest : (rest payload : List ℕ) → 4 + little_number 4 rest < length rest → take (little_number 4 rest) (drop 4 rest) ≡ payload → Opened (1 ∷ rest) payload
opened_rest [] payload fits is = absurd (omega arith)
opened_rest (a ∷ []) payload fits is = absurd (omega arith)
opened_rest (a ∷ b ∷ []) payload fits is = absurd (omega arith)
opened_rest (a ∷ b ∷ c ∷ []) payload fits is = absurd (omega arith)
opened_rest (a ∷ b ∷ c ∷ d ∷ tail) payload fits is =
    let len : ℕ = little_number 4 (a ∷ b ∷ c ∷ d ∷ []) in
    let room : len < length tail = omega arith in record {
      a = a;
      b = b;
      c = c;
      d = d;
      behind = drop len tail;
      split = ap (λ (l : List ℕ). 1 ∷ a ∷ b ∷ c ∷ d ∷ l) (sym (take-append-drop len tail) ∙ ap (λ (l : List ℕ). l ++ drop len tail) is);
      more = omega (arith, length-drop len tail);
      size = sym (length-take-le len tail (omega arith)) ∙ ap (λ (l : List ℕ). length l) is;
    }

pub opened : (bytes payload : List ℕ) → next_of bytes ≡ Open payload → Opened bytes payload
opened [] payload e = absurd (cc e)
opened (g ∷ rest) payload e =
    let t = both (g == 1) (nat_lt (4 + little_number 4 rest) (length rest)) payload (take (little_number 4 rest) (drop 4 rest)) e in
    let is_one : g ≡ 1 = grind (arith, nat_tests, t.0) in
    let fits : 4 + little_number 4 rest < length rest = grind (arith, nat_tests, t.1) in
    subst (λ (x : ℕ). Opened (x ∷ rest) payload) (sym is_one) (opened_rest rest payload fits t.2)

open_gate : (a b c d : ℕ) (payload behind : List ℕ) → little_number 4 (a ∷ b ∷ c ∷ d ∷ []) ≡ length payload → 0 < length behind
    → next_of ((1 ∷ a ∷ b ∷ c ∷ d ∷ payload) ++ behind) ≡ Open payload
open_gate a b c d payload behind size more =
    let len : ℕ = little_number 4 (a ∷ b ∷ c ∷ d ∷ []) in
    let fits : nat_lt (4 + len) (length (a ∷ b ∷ c ∷ d ∷ (payload ++ behind))) ≡ true = grind (arith, nat_tests, length-append payload behind) in
    ap (λ (t : Bool). if t then Open (take len (payload ++ behind)) else Broken) fits ∙ ap (λ (l : List ℕ). Open l) (take_at payload behind len (sym size))

pub openly : (bytes payload : List ℕ) → Opened bytes payload → next_of bytes ≡ Open payload
openly bytes payload o = ap (λ (l : List ℕ). next_of l) o.split ∙ open_gate o.a o.b o.c o.d payload o.behind o.size o.more

-- another list with the same prefix, which has a gate behind the record too
pub same_next : (bytes other payload : List ℕ) (n : ℕ) → next_of bytes ≡ Open payload → take n other ≡ take n bytes → 5 + length payload ≤ n → n < length other
    → next_of other ≡ Open payload
same_next bytes other payload n e same past within =
    let o = opened bytes payload e in
    let record_bytes : List ℕ = 1 ∷ o.a ∷ o.b ∷ o.c ∷ o.d ∷ payload in
    let m : ℕ = length record_bytes in
    let le : m ≤ n = omega arith in
    let front : take m other ≡ record_bytes = sym (take-take m n other le) ∙ ap (λ (l : List ℕ). take m l) same ∙ take-take m n bytes le
    ∙ ap (λ (l : List ℕ). take m l) o.split ∙ take_at record_bytes o.behind m refl in
    let split : other ≡ record_bytes ++ drop m other = sym (take-append-drop m other) ∙ ap (λ (l : List ℕ). l ++ drop m other) front in
    ap (λ (l : List ℕ). next_of l) split ∙ open_gate o.a o.b o.c o.d payload (drop m other) o.size (omega (arith, length-drop m other))

pub within_next : (bytes payload : List ℕ) → next_of bytes ≡ Open payload → 5 + length payload < length bytes
within_next bytes payload e =
    let o = opened bytes payload e in
    omega (arith, ap (λ (l : List ℕ). length l) o.split, length-append (1 ∷ o.a ∷ o.b ∷ o.c ∷ o.d ∷ payload) o.behind, o.more)

-- a gate is closed exactly where its byte is not 1
pub closed_next : (gate : ℕ) (rest : List ℕ) → gate ≢ 1 → next_of (gate ∷ rest) ≡ Closed
closed_next gate rest apart =
    let no : gate == 1 ≡ false = grind (arith, nat_tests) in
    ap (λ (t : Bool). if t then (if nat_lt (4 + little_number 4 rest) (length rest) then Open
    (take (little_number 4 rest) (drop 4 rest)) else Broken) else Closed) no

pub not_open : (gate : ℕ) (rest : List ℕ) → next_of (gate ∷ rest) ≡ Closed → gate ≢ 1
not_open gate rest e is_one =
    let no : gate == 1 ≡ false = shut (gate == 1) (nat_lt (4 + little_number 4 rest) (length rest)) (take (little_number 4 rest) (drop 4 rest)) e in
    grind (arith, nat_tests, no)

-- the length by its four bytes alone
pub little_front : (bytes : List ℕ) → little_number 4 (take 4 bytes) ≡ little_number 4 bytes
little_front [] = refl
little_front (a ∷ []) = refl
little_front (a ∷ b ∷ []) = refl
little_front (a ∷ b ∷ c ∷ []) = refl
little_front (a ∷ b ∷ c ∷ d ∷ rest) = refl

-- behind an open gate, by the length
pub open_next : (gate : ℕ) (rest payload : List ℕ) → gate ≡ 1 → 4 + little_number 4 rest < length rest → take (little_number 4 rest) (drop 4 rest) ≡ payload
    → next_of (gate ∷ rest) ≡ Open payload
open_next gate rest payload is_one fits is =
    let yes : gate == 1 ≡ true = grind (arith, nat_tests) in
    let room : nat_lt (4 + little_number 4 rest) (length rest) ≡ true = grind (arith, nat_tests) in
    ap (λ (t : Bool). if t then (if nat_lt (4 + little_number 4 rest) (length rest) then Open
    (take (little_number 4 rest) (drop 4 rest)) else Broken) else Closed) yes
    ∙ ap (λ (t : Bool). if t then Open (take (little_number 4 rest) (drop 4 rest)) else Broken) room
    ∙ ap (λ (l : List ℕ). Open l) is

pub broken_next : (gate : ℕ) (rest : List ℕ) → gate ≡ 1 → length rest ≤ 4 + little_number 4 rest → next_of (gate ∷ rest) ≡ Broken
broken_next gate rest is_one short =
    let yes : gate == 1 ≡ true = grind (arith, nat_tests) in
    let no : nat_lt (4 + little_number 4 rest) (length rest) ≡ false = grind (arith, nat_tests) in
    ap (λ (t : Bool). if t then (if nat_lt (4 + little_number 4 rest) (length rest) then Open
    (take (little_number 4 rest) (drop 4 rest)) else Broken) else Closed) yes
    ∙ ap (λ (t : Bool). if t then Open (take (little_number 4 rest) (drop 4 rest)) else Broken) no
