-- What the runs of a batch touched, in one list: the keys of each, and its prefixes as keys.
use Rattle.std.proofs.Common.{◌≡◌, ◌*◌, ◌≤◌, List, [], ◌∷◌, ◌++◌, map, length, Bool, true, false, refl, sym, ap, ◌∙◌, arith, length-append}
use Rattle.std.specs.Prelude.{◌||◌, is_some, slice_index_or}
use Rattle.std.specs.List.{All}
use Rattle.std.specs.Ordering.{eq_by_cmp}
use Rattle.std.specs.Cmp.{tied_itself, Equal-is}
use Rattle.std.specs.FinMap as fin
use Rattle.std.proofs.lemmas.Bool.{or_left, or_right}
use Rattle.std.proofs.lemmas.List.{length-map}
use Rattle.std.proofs.lemmas.List.Elements.{All-nil, All-cons, All-head, All-tail, All-append, All-map}
use Rattle.std.proofs.lemmas.List.Folds.{list_any-append}
use Rattle.aria_base.specs.Orders.{key_cmp}
use Rattle.aria_base.specs.declared.keys.Key.{Key}
use Rattle.aria_base.proofs.Orders.{key_cmp_total}
use Rattle.batch_rules.specs.Touches.{is_among}
use Rattle.batch_rules.proofs.Lists.{All-unmapped}
use Rattle.key_numbering.specs.Numbers.{numbers_of}
use Rattle.range_rules.specs.declared.routines.Ran.{Ran}
use Rattle.range_rules.specs.declared.routines.TheConstants.{MOST_ACTIONS}
use Rattle.range_rules.specs.Batches.{written}
use Rattle.range_runs.specs.Indexes.{Listed, with_keys}
use Rattle.range_runs.proofs.Following.{has-with_keys}
use Rattle.range_marks.specs.Decisions.{touch_count}
use Rattle.range_runs.specs.Marks.{mark_of}
use Rattle.range_marks.specs.Marks.{marks_on, scanned_by, with_scans, sets_with}
use Rattle.range_marks.specs.Within.{IsWithin}
use Rattle.range_marks.proofs.Few.{few_numbers}
use Rattle.range_marks.proofs.Marking.{marked_scanned}

-- ---- keys among others

abbrev In : List Key → Key → Type 0
In keys k = is_among key_cmp keys k ≡ true

among_left : (ks ls : List Key) (k : Key) → In ks k → In (ks ++ ls) k
among_left ks ls k e = list_any-append (eq_by_cmp key_cmp k) ks ls ∙ or_left _ _ e

among_right : (ks ls : List Key) (k : Key) → In ls k → In (ks ++ ls) k
among_right ks ls k e = list_any-append (eq_by_cmp key_cmp k) ks ls ∙ or_right _ _ e

itself : (k : Key) → eq_by_cmp key_cmp k k ≡ true
itself k = (Equal-is (key_cmp k k)).1 (tied_itself key_cmp_total k)

pub among_own : (ks : List Key) → All (In ks) ks
among_own [] = All-nil (In [])
among_own (k ∷ ks) = All-cons (In (k ∷ ks)) k ks (or_left _ _ (itself k)) (λ i d below. or_right _ _ (among_own ks i d below))

either_in : (a b : Bool) (P : Type 0) → (a || b) ≡ true → (a ≡ true → P) → (b ≡ true → P) → P
either_in true b P e f g = f refl
either_in false b P e f g = g e

-- ---- prefixes that were scanned

or_of_three : (a b c : Bool) → ((a || b) || c) ≡ (a || (b || c))
or_of_three true b c = refl
or_of_three false b c = refl

or_nothing : (a : Bool) → a ≡ (a || false)
or_nothing true = refl
or_nothing false = refl

has_scans : (scanned : Listed) (rs : List Ran) (q : Key)
    → fin.contains_key (with_scans scanned rs) q ≡ (fin.contains_key scanned q || is_among key_cmp (scanned_by rs) q)
has_scans scanned [] q = or_nothing (fin.contains_key scanned q)
has_scans scanned (r ∷ rs) q =
    let own = map mark_of r.scans in
    has_scans (with_keys scanned own) rs q
    ∙ ap (λ h. h || is_among key_cmp (scanned_by rs) q) (has-with_keys scanned own q)
    ∙ or_of_three (fin.contains_key scanned q) (is_among key_cmp own q) (is_among key_cmp (scanned_by rs) q)
    ∙ ap (λ b. fin.contains_key scanned q || b) (sym (list_any-append (eq_by_cmp key_cmp q) own (scanned_by rs)))

-- all that was scanned, and nothing else
pub all_scanned : (rs : List Ran) (q : Key) → fin.contains_key (with_scans fin.empty rs) q ≡ is_among key_cmp (scanned_by rs) q
all_scanned rs q = has_scans fin.empty rs q
    ∙ ap (λ b. b || is_among key_cmp (scanned_by rs) q) (ap is_some (fin.get-empty {X = Unit {0}} key_cmp q))

pub own_scans : (rs : List Ran) → All (λ r. All (λ p. In (scanned_by rs) (mark_of p)) r.scans) rs
own_scans [] = All-nil (λ r. All (λ p. In [] (mark_of p)) r.scans)
own_scans (r ∷ rs) =
    let own = map mark_of r.scans in
    let all : All (In (scanned_by (r ∷ rs))) own = λ i d below. among_left own (scanned_by rs) (slice_index_or own i d) (among_own own i d below) in
    All-cons (λ r. All (λ p. In (own ++ scanned_by rs) (mark_of p)) r.scans) r rs
    (All-unmapped (In (own ++ scanned_by rs)) mark_of r.scans all)
    (λ i d below j e within. among_right own (scanned_by rs) (mark_of (slice_index_or (slice_index_or rs i d).scans j e))
    (own_scans rs i d below j e within))

-- ---- all that was touched

abbrev touched_by : Ran → List Key
touched_by r = (r.reads ++ written r) ++ map mark_of r.scans

abbrev pub all_touched : List Ran → List Key
all_touched [] = []
all_touched (r ∷ rs) = touched_by r ++ all_touched rs

pub few_touched : (rs : List Ran) → All (λ r. touch_count r ≤ MOST_ACTIONS) rs → length (all_touched rs) ≤ MOST_ACTIONS * length rs
few_touched [] few = omega arith
few_touched (r ∷ rs) few =
    let own = All-head (λ r. touch_count r ≤ MOST_ACTIONS) r rs few in
    let rest = few_touched rs (All-tail (λ r. touch_count r ≤ MOST_ACTIONS) r rs few) in
    let whole = length-append (touched_by r) (all_touched rs) in
    let two = length-append (r.reads ++ written r) (map mark_of r.scans) in
    let one = length-append r.reads (written r) in
    omega (arith, own, rest, whole, two, one, length-map r.scans mark_of, length-map r.writes (λ row. row.0))

-- a part of what each touched is among all
module _ (part : Ran → List Key) (inside : (r : Ran) (k : Key) → In (part r) k → In (touched_by r) k) where
  parts_in : (rs : List Ran) → All (λ r. All (In (all_touched rs)) (part r)) rs
  parts_in [] = All-nil (λ r. All (In []) (part r))
  parts_in (r ∷ rs) = All-cons (λ x. All (In (touched_by r ++ all_touched rs)) (part x)) r rs
      (λ i d below. among_left (touched_by r) (all_touched rs) (slice_index_or (part r) i d)
      (inside r (slice_index_or (part r) i d) (among_own (part r) i d below)))
      (λ i d below j e within. among_right (touched_by r) (all_touched rs) (slice_index_or (part (slice_index_or rs i d)) j e)
      (parts_in rs i d below j e within))

scanned_in : (rs : List Ran) (k : Key) → In (scanned_by rs) k → In (all_touched rs) k
scanned_in [] k e = cc
scanned_in (r ∷ rs) k e =
    let own = map mark_of r.scans in
    either_in (is_among key_cmp own k) (is_among key_cmp (scanned_by rs) k) (In (touched_by r ++ all_touched rs) k)
    (sym (list_any-append (eq_by_cmp key_cmp k) own (scanned_by rs)) ∙ e)
    (λ first. among_left (touched_by r) (all_touched rs) k (among_right (r.reads ++ written r) own k first))
    (λ later. among_right (touched_by r) (all_touched rs) k (scanned_in rs k later))

module _ (rs : List Ran) where
  abbrev pub scanned : Listed
  scanned = with_scans fin.empty rs

  marks_in : (ks : List Key) → All (In (all_touched rs)) (marks_on scanned ks)
  marks_in ks i d below =
      let m = slice_index_or (marks_on scanned ks) i d in
      scanned_in rs m (sym (all_scanned rs m) ∙ marked_scanned scanned ks i d below)

  all_within : All (λ r. IsWithin (all_touched rs) (sets_with scanned r)) rs
  all_within i d below =
      let r = slice_index_or rs i d in
      record {
        reads = All-append (In (all_touched rs)) r.reads (map mark_of r.scans)
            (parts_in (λ r. r.reads) (λ r k e. among_left (r.reads ++ written r) (map mark_of r.scans) k (among_left r.reads (written r) k e)) rs i d below)
            (parts_in (λ r. map mark_of r.scans) (λ r k e. among_right (r.reads ++ written r) (map mark_of r.scans) k e) rs i d below);
        writes = All-append (In (all_touched rs)) (written r) (marks_on scanned (written r))
            (parts_in written (λ r k e. among_left (r.reads ++ written r) (map mark_of r.scans) k (among_right r.reads (written r) k e)) rs i d below)
            (marks_in (written r));
      }

  -- so many numbers are needed at most
  pub few_needed : All (λ r. touch_count r ≤ MOST_ACTIONS) rs → fin.len (numbers_of (map (sets_with scanned) rs)) ≤ MOST_ACTIONS * length rs
  few_needed few =
      let many = few_touched rs few in
      let fewer = few_numbers (all_touched rs) (map (sets_with scanned) rs) (All-map (IsWithin (all_touched rs)) (sets_with scanned) rs all_within) in
      omega (arith, many, fewer)
