-- The fronts of a key's parts that were scanned are the scanned prefixes that the key is under.
use Rattle.std.proofs.Common.{◌≡◌, ℕ, zero, suc, ◌+◌, ◌≤◌, ◌<◌, List, [], ◌∷◌, ◌++◌, take, length, Bool, true, false, refl, sym, ap, ◌∙◌, inl, inr, arith, add-one}
use Rattle.std.specs.Prelude.{◌||◌, ◌&&◌, if◌then◌else◌, min, nat_eq, nat_lt, slice_index_or}
use Rattle.std.specs.List.{All, list_any}
use Rattle.std.specs.Ordering.{eq_by_cmp, is_eq}
use Rattle.std.specs.Cmp.Lexicographic.{slice_cmp}
use Rattle.std.specs.FinMap as fin
use Rattle.std.proofs.Math.Nat.{min-le_left, min-le_right, le-min}
use Rattle.std.proofs.lemmas.Bool.{cases_lt, lt-ltb, le-ltb, eq-eqb, ne_eqb}
use Rattle.std.proofs.lemmas.Bool.Decides.{eqb_tells}
use Rattle.std.proofs.lemmas.List.Elements.{All-nil, All-cons, All-append}
use Rattle.std.proofs.lemmas.List.Folds.{list_any-append}
use Rattle.aria_base.specs.Orders.{part_cmp, key_cmp}
use Rattle.aria_base.specs.declared.keys.Part.{Part}
use Rattle.aria_base.specs.declared.keys.Key.{Key}
use Rattle.aria_base.specs.declared.limits.TheConstants.{MOST_PARTS}
use Rattle.aria_base.proofs.Orders.{key_cmp-IsAntisymmetric}
use Rattle.batch_rules.specs.Touches.{is_among}
use Rattle.batch_rules.proofs.Maps.{same_key}
use Rattle.range_rules.specs.declared.routines.Prefix.{Prefix}
use Rattle.range_rules.specs.Scans.{begins, is_under}
use Rattle.range_marks.specs.Decisions.{AreMarks}
use Rattle.range_runs.specs.Indexes.{Listed}
use Rattle.range_runs.specs.Marks.{mark_of}
use Rattle.range_runs.proofs.Marking.{tied_then, and_false, same_mark}
use Rattle.range_marks.specs.Marks.{prefix_of, front_of, front_count, fronts_below, marks_on}

pub fronts_more : (scanned : Listed) (k : Key) (n : ℕ) → fronts_below scanned k (n + 1) ≡ fronts_below scanned k n
    ++ (if fin.contains_key scanned (front_of k n) then front_of k n ∷ [] else [])
fronts_more scanned k n = rw add-one refl

-- ---- tests

and_assoc : (a b c : Bool) → (a && (b && c)) ≡ ((a && b) && c)
and_assoc true b c = refl
and_assoc false b c = refl

and_or : (a b c : Bool) → ((a && b) || (a && c)) ≡ (a && (b || c))
and_or true b c = refl
and_or false b c = refl

or_none : (a : Bool) → (a || false) ≡ a
or_none true = refl
or_none false = refl

or_all : (a : Bool) → (a || true) ≡ true
or_all true = refl
or_all false = refl

lt_step : (a n : ℕ) → (nat_lt a n || nat_eq a n) ≡ nat_lt a (suc n)
lt_step a n = elim (cases_lt a n) [
  | inl less ↦ ap (λ b. b || nat_eq a n) (lt-ltb a n less) ∙ sym (lt-ltb a (suc n) (omega arith))
  | inr ge ↦ elim (eqb_tells a n) [
    | inl same ↦ let e = same.1 in ap (λ b. nat_lt a n || b) same.0 ∙ or_all (nat_lt a n) ∙ sym (lt-ltb a (suc n) (omega arith))
    | inr apart ↦ let e = apart.1 in ap (λ b. b || nat_eq a n) (le-ltb a n ge) ∙ apart.0 ∙ sym (le-ltb a (suc n) (omega arith))
  ]
]

suc_same : (a b : ℕ) → nat_eq a b ≡ nat_eq (suc a) (suc b)
suc_same a b = elim (eqb_tells a b) [
  | inl same ↦ let e = same.1 in same.0 ∙ sym (eq-eqb (suc a) (suc b) (omega arith))
  | inr apart ↦ let e = apart.1 in apart.0 ∙ sym (ne_eqb (suc a) (suc b) (λ same. e (omega arith)))
]

-- ---- fronts

same_parts : (ps xs : List Part) (n : ℕ) → n ≤ length xs → is_eq (slice_cmp part_cmp ps (take n xs)) ≡ (begins ps xs && nat_eq (length ps) n)
same_parts [] xs zero below = refl
same_parts [] [] (suc n) below = absurd (omega arith)
same_parts [] (x ∷ xs) (suc n) below = sym (ne_eqb 0 (suc n) (λ e. omega arith))
same_parts (p ∷ ps) xs zero below = sym (ap (λ b. begins (p ∷ ps) xs && b) (ne_eqb (suc (length ps)) 0 (λ e. omega arith)) ∙ and_false _)
same_parts (p ∷ ps) [] (suc n) below = absurd (omega arith)
same_parts (p ∷ ps) (x ∷ xs) (suc n) below = tied_then (part_cmp p x) (slice_cmp part_cmp ps (take n xs))
    ∙ ap (λ b. eq_by_cmp part_cmp p x && b) (same_parts ps xs n (omega arith)) ∙ and_assoc (eq_by_cmp part_cmp p x) (begins ps xs) (nat_eq (length ps) n)
    ∙ ap (λ b. (eq_by_cmp part_cmp p x && begins ps xs) && b) (suc_same (length ps) n)

few_taken : (xs : List Part) (n : ℕ) → length (take n xs) ≤ n
few_taken xs zero = omega arith
few_taken [] (suc n) = omega arith
few_taken (x ∷ xs) (suc n) = let few = few_taken xs n in omega (arith, few)

same_front : (p : Prefix) (k : Key) (n : ℕ) → n ≤ length k.parts → n < MOST_PARTS → length p.parts < MOST_PARTS
    → eq_by_cmp key_cmp (mark_of p) (front_of k n) ≡ (is_under p k && nat_eq (length p.parts) n)
same_front p k n below few short = same_mark p (prefix_of k n) short (let t = few_taken k.parts n in omega (arith, t, few))
    ∙ ap (λ b. nat_eq p.table k.table && b) (same_parts p.parts k.parts n below)
    ∙ and_assoc (nat_eq p.table k.table) (begins p.parts k.parts) (nat_eq (length p.parts) n)

-- a scanned prefix is the front that was looked up, or it is not there
looked_up : (scanned : Listed) (q f : Key) → fin.contains_key scanned q ≡ true → is_among key_cmp (if fin.contains_key scanned f then f ∷ [] else []) q
    ≡ eq_by_cmp key_cmp q f
looked_up scanned q f there = elim (fin.contains_key scanned f) as (λ b. fin.contains_key scanned f ≡ b → is_among key_cmp (if b then f ∷ [] else []) q
    ≡ eq_by_cmp key_cmp q f) [
      | true ↦ λ e. or_none (eq_by_cmp key_cmp q f)
      | false ↦ λ e. elim (eq_by_cmp key_cmp q f) as (λ b. eq_by_cmp key_cmp q f ≡ b → false ≡ b) [
        | true ↦ λ t. sym e ∙ ap (fin.contains_key scanned) (sym (same_key key_cmp-IsAntisymmetric q f t)) ∙ there
        | false ↦ λ t. refl
      ] refl
    ] refl

fronts_each : (scanned : Listed) (k : Key) (n : ℕ) (p : Prefix) → n ≤ length k.parts + 1 → n ≤ MOST_PARTS → length p.parts < MOST_PARTS
    → fin.contains_key scanned (mark_of p) ≡ true
    → is_among key_cmp (fronts_below scanned k n) (mark_of p) ≡ (is_under p k && nat_lt (length p.parts) n)
fronts_each scanned k zero p below few short there = sym (ap (λ b. is_under p k && b) (le-ltb (length p.parts) 0 (omega arith)) ∙ and_false _)
fronts_each scanned k (suc n) p below few short there =
    let one = looked_up scanned (mark_of p) (front_of k n) there ∙ same_front p k n (omega (arith, below)) (omega (arith, few)) short in
    list_any-append (eq_by_cmp key_cmp (mark_of p)) (fronts_below scanned k n) _
    ∙ (λ i. fronts_each scanned k n p (omega (arith, below)) (omega (arith, few)) short there i || one i)
    ∙ and_or (is_under p k) (nat_lt (length p.parts) n) (nat_eq (length p.parts) n) ∙ ap (λ b. is_under p k && b) (lt_step (length p.parts) n)

begins_within : (ps xs : List Part) → begins ps xs ≡ true → length ps ≤ length xs
begins_within [] xs e = omega arith
begins_within (p ∷ ps) [] e = cc
begins_within (p ∷ ps) (x ∷ xs) e = elim (eq_by_cmp part_cmp p x) as (λ b. (b && begins ps xs) ≡ true → suc (length ps) ≤ suc (length xs)) [
  | true ↦ λ e. let rest = begins_within ps xs e in omega arith
  | false ↦ λ e. cc
] e

below_both : (a n m : ℕ) → a < n → a < m → a < min n m
below_both a n m less few = le-min less few

under_within : (p : Prefix) (k : Key) → length p.parts < MOST_PARTS → (is_under p k && nat_lt (length p.parts) (front_count k)) ≡ is_under p k
under_within p k short = elim (nat_eq p.table k.table) as (λ t. ((t && begins p.parts k.parts) && nat_lt (length p.parts) (front_count k))
    ≡ (t && begins p.parts k.parts)) [
      | true ↦ elim (begins p.parts k.parts) as (λ b. begins p.parts k.parts ≡ b → (b && nat_lt (length p.parts) (front_count k)) ≡ b) [
        | true ↦ λ e.
            let few = begins_within p.parts k.parts e in
            lt-ltb (length p.parts) (front_count k) (below_both (length p.parts) (length k.parts + 1) MOST_PARTS (omega (arith, few)) short)
        | false ↦ λ e. refl
      ] refl
      | false ↦ refl
    ]

few_fronts : (k : Key) → (front_count k ≤ length k.parts + 1) × (front_count k ≤ MOST_PARTS)
few_fronts k = (min-le_left (length k.parts + 1) MOST_PARTS, min-le_right (length k.parts + 1) MOST_PARTS)

-- a scanned prefix is marked exactly where one of the keys is under it
pub marked_each : (scanned : Listed) (ks : List Key) (p : Prefix) → length p.parts < MOST_PARTS → fin.contains_key scanned (mark_of p) ≡ true
    → is_among key_cmp (marks_on scanned ks) (mark_of p) ≡ list_any (is_under p) ks
marked_each scanned [] p short there = refl
marked_each scanned (k ∷ ks) p short there =
    let fronts = fronts_each scanned k (front_count k) p (few_fronts k).0 (few_fronts k).1 short there ∙ under_within p k short in
    list_any-append (eq_by_cmp key_cmp (mark_of p)) (fronts_below scanned k (front_count k)) (marks_on scanned ks)
    ∙ (λ i. fronts i || marked_each scanned ks p short there i)

-- and nothing else is
module _ (scanned : Listed) where
  abbrev There : Key → Type 0
  There m = fin.contains_key scanned m ≡ true

  one : (f : Key) → All There (if fin.contains_key scanned f then f ∷ [] else [])
  one f = elim (fin.contains_key scanned f) as (λ b. fin.contains_key scanned f ≡ b → All There (if b then f ∷ [] else [])) [
    | true ↦ λ e. All-cons There f [] e (All-nil There)
    | false ↦ λ e. All-nil There
  ] refl

  fronts : (k : Key) (n : ℕ) → All There (fronts_below scanned k n)
  fronts k zero = All-nil There
  fronts k (suc n) = All-append There (fronts_below scanned k n) _ (fronts k n) (one (front_of k n))

  pub marked_scanned : (ks : List Key) → All There (marks_on scanned ks)
  marked_scanned [] = All-nil There
  marked_scanned (k ∷ ks) = All-append There (fronts_below scanned k (front_count k)) (marks_on scanned ks) (fronts k (front_count k)) (marked_scanned ks)

pub are_marks : (scanned : Listed) (ks : List Key) → AreMarks (fin.keys scanned) ks (marks_on scanned ks)
are_marks scanned ks = record {
  among = λ k d below. sym (fin.contains_key-keys scanned (slice_index_or (marks_on scanned ks) k d)) ∙ marked_scanned scanned ks k d below;
  each = λ p short there. marked_each scanned ks p short (fin.contains_key-keys scanned (mark_of p) ∙ there);
}
