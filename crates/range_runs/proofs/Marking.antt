-- The keys that stand for prefixes tell them apart, so that a map of such keys tells which prefixes stand in a list.
use Rattle.std.proofs.Common.{◌≡◌, ◌≢◌, ℕ, ℤ, pos, negsuc, suc, ◌<◌, List, [], ◌∷◌, ◌++◌, map, length, Bool, true, false, cond, Some, refl, sym, ap, ◌∙◌, inl, inr, arith}
use Rattle.std.specs.Prelude.{◌&&◌, if◌then◌else◌, is_some, nat_eq}
use Rattle.std.specs.Ordering.{eq_by_cmp, is_eq, nat_cmp, int_cmp, ordering_then}
use Rattle.std.specs.Cmp.Lexicographic.{slice_cmp}
use Rattle.std.specs.declared.cmp.Ordering.{Ordering}
use Rattle.std.specs.declared.cmp.Ordering.TheVariants.{Less, Equal, Greater}
use Rattle.std.specs.FinMap as fin
use Rattle.std.proofs.lemmas.Bool.Decides.{eqb_tells}
use Rattle.std.specs.Cmp.{unsigned_tied, tied_itself, Equal-is}
use Rattle.std.specs.FinMap.{int_cmp-IsAntisymmetric}
use Rattle.std.proofs.lemmas.Cmp.{int_cmp_total}
use Rattle.std.proofs.lemmas.List.{map-append}
use Rattle.std.proofs.lemmas.List.Folds.{list_any-append}
use Rattle.aria_base.specs.Orders.{part_cmp, key_cmp}
use Rattle.aria_base.specs.declared.keys.Part.{Part}
use Rattle.aria_base.specs.declared.limits.TheConstants.{MOST_PARTS}
use Rattle.batch_rules.specs.Touches.{is_among}
use Rattle.range_rules.specs.declared.routines.Prefix.{Prefix}
use Rattle.range_rules.specs.Scans.{key_of, key_at, with_scan}
use Rattle.range_runs.specs.Indexes.{Listed}
use Rattle.range_runs.specs.Marks.{whole_table, mark_of, HasMarks}
use Rattle.range_runs.specs.declared.marks.TheConstants.{NO_TABLE}
use Rattle.range_runs.proofs.Following.{has-followed, one_more, or_none}

pub tied_then : (a b : Ordering) → is_eq (ordering_then a b) ≡ (is_eq a && is_eq b)
tied_then Less b = refl
tied_then Equal b = refl
tied_then Greater b = refl

pub and_false : (a : Bool) → (a && false) ≡ false
and_false true = refl
and_false false = refl

-- parts of which there are not as many differ
unlike : (xs ys : List Part) → length xs ≢ length ys → is_eq (slice_cmp part_cmp xs ys) ≡ false
unlike [] [] ne = absurd (ne refl)
unlike [] (y ∷ ys) ne = refl
unlike (x ∷ xs) [] ne = refl
unlike (x ∷ xs) (y ∷ ys) ne = tied_then (part_cmp x y) (slice_cmp part_cmp xs ys)
    ∙ ap (λ b. is_eq (part_cmp x y) && b) (unlike xs ys (λ e. ne (ap suc e))) ∙ and_false (is_eq (part_cmp x y))

abbrev size : ℤ → ℕ
size (pos n) = n
size (negsuc n) = n

numbers_tied : (t u : ℕ) → is_eq (int_cmp (pos t) (pos u)) ≡ nat_eq t u
numbers_tied t u = elim (eqb_tells t u) [
  | inl same ↦ ap (λ n. is_eq (int_cmp (pos t) (pos n))) (sym same.1) ∙ (Equal-is (int_cmp (pos t) (pos t))).1 (tied_itself int_cmp_total (pos t)) ∙ sym same.0
  | inr apart ↦ elim (int_cmp (pos t) (pos u)) as (λ o. int_cmp (pos t) (pos u) ≡ o → is_eq o ≡ nat_eq t u) [
    | Less ↦ λ _. sym apart.0
    | Equal ↦ λ e. absurd (apart.1 (ap size (int_cmp-IsAntisymmetric (pos t) (pos u) e)))
    | Greater ↦ λ _. sym apart.0
  ] refl
]

same_tables : (t u : ℕ) → eq_by_cmp key_cmp (whole_table t) (whole_table u) ≡ (nat_eq t u && true)
same_tables t u = tied_then (int_cmp (pos t) (pos u)) Equal ∙ ap (λ b. b && true) (numbers_tied t u)

-- two prefixes are one exactly where the keys are that stand for them
pub same_mark : (p q : Prefix) → length p.parts < MOST_PARTS → length q.parts < MOST_PARTS
    → eq_by_cmp key_cmp (mark_of p) (mark_of q) ≡ (nat_eq p.table q.table && is_eq (slice_cmp part_cmp p.parts q.parts))
same_mark p q few less = at p.parts q.parts few less
  where
    at : (ps qs : List Part) → length ps < MOST_PARTS → length qs < MOST_PARTS
        → eq_by_cmp key_cmp (key_at (whole_table p.table) p.table ps) (key_at (whole_table q.table) q.table qs)
        ≡ (nat_eq p.table q.table && is_eq (slice_cmp part_cmp ps qs))
    at [] [] few less = same_tables p.table q.table
    at [] (y ∷ ys) few less = tied_then (nat_cmp NO_TABLE q.table) (slice_cmp part_cmp (whole_table p.table).parts (y ∷ ys))
        ∙ ap (λ b. is_eq (nat_cmp NO_TABLE q.table) && b) (unlike (whole_table p.table).parts (y ∷ ys) (λ e. omega (arith, less, e)))
        ∙ and_false (is_eq (nat_cmp NO_TABLE q.table)) ∙ sym (and_false (nat_eq p.table q.table))
    at (x ∷ xs) [] few less = tied_then (nat_cmp p.table NO_TABLE) (slice_cmp part_cmp (x ∷ xs) (whole_table q.table).parts)
        ∙ ap (λ b. is_eq (nat_cmp p.table NO_TABLE) && b) (unlike (x ∷ xs) (whole_table q.table).parts (λ e. omega (arith, few, e)))
        ∙ and_false (is_eq (nat_cmp p.table NO_TABLE)) ∙ sym (and_false (nat_eq p.table q.table))
    at (x ∷ xs) (y ∷ ys) few less = tied_then (nat_cmp p.table q.table) (slice_cmp part_cmp (x ∷ xs) (y ∷ ys))
        ∙ ap (λ b. b && is_eq (slice_cmp part_cmp (x ∷ xs) (y ∷ ys))) (unsigned_tied p.table q.table)

-- and so where they are one as lists of parts
same_mark_of : (p q : Prefix) → length p.parts < MOST_PARTS → length q.parts < MOST_PARTS
    → eq_by_cmp key_cmp (mark_of p) (mark_of q) ≡ eq_by_cmp key_cmp (key_of p) (key_of q)
same_mark_of p q few less = same_mark p q few less
    ∙ sym (tied_then (nat_cmp p.table q.table) (slice_cmp part_cmp p.parts q.parts)
    ∙ ap (λ b. b && is_eq (slice_cmp part_cmp p.parts q.parts)) (unsigned_tied p.table q.table))

-- ---- the prefixes that a run scanned

pub no_marks : (marks : Listed) → marks ≡ fin.empty → HasMarks [] marks
no_marks marks none p few = ap (λ (m : Listed). fin.contains_key m (mark_of p)) none ∙ ap is_some (fin.get-empty {X = Unit {0}} key_cmp (mark_of p))

-- with one more behind them
pub marked_more : (list : List Prefix) (marks more : Listed) (q : Prefix) → length q.parts < MOST_PARTS → HasMarks list marks
    → more ≡ fin.insert marks (mark_of q) tt → HasMarks (list ++ q ∷ []) more
marked_more list marks more q less has is p few =
    let old = is_among key_cmp (map key_of list) (key_of p) in
    let here = eq_by_cmp key_cmp (key_of p) (key_of q) in
    ap (λ (m : Listed). fin.contains_key m (mark_of p)) is
    ∙ has-followed {X = Unit {0}} marks (mark_of q) (Some tt) (mark_of p)
    ∙ (λ i. cond (same_mark_of p q few less i) true (has p few i))
    ∙ or_none (cond here true old) ∙ one_more here old false
    ∙ sym (ap (λ ks. is_among key_cmp ks (key_of p)) (map-append key_of list (q ∷ []))
    ∙ list_any-append (eq_by_cmp key_cmp (key_of p)) (map key_of list) (key_of q ∷ []))

-- what is noted of a prefix whose mark is there, and of one whose mark is not
module _ (list : List Prefix) (marks : Listed) (p : Prefix) (few : length p.parts < MOST_PARTS) (has : HasMarks list marks) where
  found : (b : Bool) → fin.contains_key marks (mark_of p) ≡ b → is_among key_cmp (map key_of list) (key_of p) ≡ b
  found b there = sym (has p few) ∙ there

  pub noted_before : fin.contains_key marks (mark_of p) ≡ true → list ≡ with_scan list p
  noted_before there = sym (ap (λ b. if b then list else list ++ p ∷ []) (found true there))

  pub noted_new : fin.contains_key marks (mark_of p) ≡ false → list ++ p ∷ [] ≡ with_scan list p
  noted_new new = sym (ap (λ b. if b then list else list ++ p ∷ []) (found false new))
