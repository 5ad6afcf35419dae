-- Keys under a prefix stand together in the order of keys, and begin where the prefix would stand.
use Rattle.std.proofs.Common.{◌≡◌, ℕ, List, [], ◌∷◌, Bool, true, false, cond, refl, sym, ap, subst, ◌∙◌}
use Rattle.std.specs.Prelude.{◌&&◌, nat_eq, if◌then◌else◌}
use Rattle.std.specs.List.{AllByRecursion, filter}
use Rattle.std.specs.List.Sorted.{IsStrictlySortedBy}
use Rattle.std.specs.Map.{keys_of}
use Rattle.std.specs.Ordering.{eq_by_cmp, is_eq, is_le, nat_cmp, ordering_then, ordering_reverse}
use Rattle.std.specs.Cmp.{tied_itself, Equal-is, nat_cmp_total}
use Rattle.std.specs.FinMap.{nat_cmp-IsAntisymmetric}
use Rattle.std.proofs.lemmas.Bool.{eq-eqb, eqb-true, or_left, or_right}
use Rattle.std.specs.Cmp.Lexicographic.{slice_cmp}
use Rattle.std.specs.declared.cmp.Ordering.{Ordering}
use Rattle.std.specs.declared.cmp.Ordering.TheVariants.{Less, Equal, Greater}
use Rattle.std.proofs.lemmas.Map.Keys.{sorted_head, sorted_tail}
use Rattle.aria_base.specs.Orders.{part_cmp, key_cmp}
use Rattle.aria_base.specs.declared.keys.Part.{Part}
use Rattle.aria_base.specs.declared.keys.Key.{Key}
use Rattle.aria_base.proofs.Orders.{part_cmp_total, part_cmp-IsAntisymmetric, key_cmp_total, derived_cmp, derived-is, derived_same}
use Rattle.std.specs.BTreeMap.Range.{entries_between}
use Rattle.std.specs.declared.ops.Bound.TheVariants.{Included, Unbounded}
use Rattle.std.specs.FinMap as fin
use Rattle.aria_base.proofs.Trees.{entries-from_entries}
use Rattle.range_rules.specs.declared.routines.Prefix.{Prefix}
use Rattle.range_rules.specs.Scans.{begins, is_under, key_of, key_at, key_or}
use Rattle.batch_rules.specs.Touches.{is_among}
use Rattle.range_runs.specs.Leasts.{least_part, first_key, can_be}

-- parts that begin with others are not before them
begins_le : (ps xs : List Part) → begins ps xs ≡ true → is_le (slice_cmp part_cmp ps xs) ≡ true
begins_le [] [] b = refl
begins_le [] (x ∷ xs) b = refl
begins_le (p ∷ ps) [] b = cc
begins_le (p ∷ ps) (x ∷ xs) b = elim (eq_by_cmp part_cmp p x) as (λ e. eq_by_cmp part_cmp p x ≡ e → (e && begins ps xs) ≡ true
    → is_le (ordering_then (part_cmp p x) (slice_cmp part_cmp ps xs)) ≡ true) [
      | true ↦ λ e rest. ap (λ o. is_le (ordering_then o (slice_cmp part_cmp ps xs))) ((Equal-is (part_cmp p x)).0 e) ∙ begins_le ps xs rest
      | false ↦ λ e rest. cc
    ] refl b

-- parts between some parts and parts that begin with these begin with these as well
between_begin : (ps es xs : List Part) → is_le (slice_cmp part_cmp ps es) ≡ true → slice_cmp part_cmp es xs ≡ Less → begins ps xs ≡ true → begins ps es ≡ true
between_begin [] es xs low less b = refl
between_begin (p ∷ ps) [] xs low less b = cc
between_begin (p ∷ ps) (e ∷ es) [] low less b = cc
between_begin (p ∷ ps) (e ∷ es) (x ∷ xs) low less b = elim (eq_by_cmp part_cmp p x) as (λ t. eq_by_cmp part_cmp p x ≡ t → (t && begins ps xs) ≡ true
    → (eq_by_cmp part_cmp p e && begins ps es) ≡ true) [
      | true ↦ λ t rest. let same : p ≡ x = part_cmp-IsAntisymmetric p x ((Equal-is (part_cmp p x)).0 t) in
          elim (part_cmp e x) as (λ o. part_cmp e x ≡ o → ordering_then o (slice_cmp part_cmp es xs) ≡ Less → (eq_by_cmp part_cmp p e && begins ps es) ≡ true) [
            | Less ↦ λ o _.
                let above : part_cmp p e ≡ Greater = part_cmp_total.antisymm p e ∙ ap ordering_reverse (ap (part_cmp e) same ∙ o) in
                cc (sym low ∙ ap (λ r. is_le (ordering_then r (slice_cmp part_cmp ps es))) above)
            | Equal ↦ λ o later.
                let alike : part_cmp p e ≡ Equal = part_cmp_total.antisymm p e ∙ ap ordering_reverse (ap (part_cmp e) same ∙ o) in
                let low_rest : is_le (slice_cmp part_cmp ps es) ≡ true = sym (ap (λ r. is_le (ordering_then r (slice_cmp part_cmp ps es))) alike) ∙ low in
                ap (λ r. is_eq r && begins ps es) alike ∙ between_begin ps es xs low_rest later rest
            | Greater ↦ λ o bad. cc
          ] refl less
      | false ↦ λ t rest. cc
    ] refl b

-- the same of keys and prefixes
both_parts : (a b : Bool) → (a && b) ≡ true → (a ≡ true) × (b ≡ true)
both_parts true b e = (refl, e)
both_parts false b e = cc

tied_tables : (t u : ℕ) → nat_eq t u ≡ true → nat_cmp t u ≡ Equal
tied_tables t u e = ap (λ n. nat_cmp t n) (sym (eqb-true t u e)) ∙ tied_itself nat_cmp_total t

pub under_le : (p : Prefix) (k : Key) → is_under p k ≡ true → is_le (key_cmp (key_of p) k) ≡ true
under_le p k u =
    let parts = both_parts _ _ u in
    ap (λ o. is_le (ordering_then o (slice_cmp part_cmp p.parts k.parts))) (tied_tables p.table k.table parts.0) ∙ begins_le p.parts k.parts parts.1

pub between_under : (p : Prefix) (k x : Key) → is_le (key_cmp (key_of p) k) ≡ true → key_cmp k x ≡ Less → is_under p x ≡ true → is_under p k ≡ true
between_under p k x low less u =
    let parts = both_parts _ _ u in
    let table : p.table ≡ x.table = eqb-true p.table x.table parts.0 in
    elim (nat_cmp k.table x.table) as (λ o. nat_cmp k.table x.table ≡ o → ordering_then o (slice_cmp part_cmp k.parts x.parts) ≡ Less
    → (nat_eq p.table k.table && begins p.parts k.parts) ≡ true) [
      | Less ↦ λ o _.
          let above : nat_cmp p.table k.table ≡ Greater = nat_cmp_total.antisymm p.table k.table ∙ ap ordering_reverse (ap (nat_cmp k.table) table ∙ o) in
          cc (sym low ∙ ap (λ r. is_le (ordering_then r (slice_cmp part_cmp p.parts k.parts))) above)
      | Equal ↦ λ o later.
          let alike : nat_cmp p.table k.table ≡ Equal = nat_cmp_total.antisymm p.table k.table ∙ ap ordering_reverse (ap (nat_cmp k.table) table ∙ o) in
          let low_rest : is_le (slice_cmp part_cmp p.parts k.parts)
          ≡ true = sym (ap (λ r. is_le (ordering_then r (slice_cmp part_cmp p.parts k.parts))) alike) ∙ low in
          ap (λ b. b && begins p.parts k.parts) (eq-eqb p.table k.table (nat_cmp-IsAntisymmetric p.table k.table alike))
          ∙ between_begin p.parts k.parts x.parts low_rest later parts.1
      | Greater ↦ λ o bad. cc
    ] refl less

le_lt : (x y z : Key) → is_le (key_cmp x y) ≡ true → key_cmp y z ≡ Less → key_cmp x z ≡ Less
le_lt x y z low less = elim (key_cmp x y) as (λ o. key_cmp x y ≡ o → is_le o ≡ true → key_cmp x z ≡ Less) [
  | Less ↦ λ o _. key_cmp_total.trans x y z o less
  | Equal ↦ λ o _. key_cmp_total.congr x y z o ∙ less
  | Greater ↦ λ o bad. cc
] refl low

with_true : (b : Bool) → (b && true) ≡ b
with_true true = refl
with_true false = refl

-- ---- the keys under a prefix in a list whose keys rise

-- a key from which on those under the prefix stand
abbrev pub least_of : Prefix → Key
least_of p = key_or (first_key p.table) p

rest_le : (o : Ordering) (xs : List Part) → is_le o ≡ true → is_le (ordering_then o (slice_cmp part_cmp [] xs)) ≡ true
rest_le Less xs e = refl
rest_le Equal [] e = refl
rest_le Equal (x ∷ xs) e = refl
rest_le Greater xs e = cc

above_first : (t : ℕ) (k : Key) → nat_eq t k.table ≡ true → (xs : List Part) → can_be xs ≡ true
    → is_le (ordering_then (nat_cmp t k.table) (slice_cmp part_cmp (least_part ∷ []) xs)) ≡ true
above_first t k same [] e = cc
above_first t k same (x ∷ xs) e = ap (λ o. is_le (ordering_then o (slice_cmp part_cmp (least_part ∷ []) (x ∷ xs)))) (tied_tables t k.table same)
    ∙ rest_le (part_cmp least_part x) xs e

above_least : (p : Prefix) (k : Key) → can_be k.parts ≡ true → is_under p k ≡ true → is_le (key_cmp (least_of p) k) ≡ true
above_least p k can u = at p.parts u (under_le p k u)
  where
    at : (ps : List Part) → (nat_eq p.table k.table && begins ps k.parts) ≡ true
        → is_le (ordering_then (nat_cmp p.table k.table) (slice_cmp part_cmp ps k.parts)) ≡ true
        → is_le (key_cmp (key_at (first_key p.table) p.table ps) k) ≡ true
    at [] u low = above_first p.table k (both_parts _ _ u).0 k.parts can
    at (x ∷ xs) u low = low

none_le : (o : Ordering) (ps xs : List Part) → is_le (ordering_then o (slice_cmp part_cmp ps xs)) ≡ true
    → is_le (ordering_then o (slice_cmp part_cmp [] xs)) ≡ true
none_le Less ps xs e = refl
none_le Equal ps [] e = refl
none_le Equal ps (x ∷ xs) e = refl
none_le Greater ps xs e = cc

from_prefix : (p : Prefix) (k : Key) → is_le (key_cmp (least_of p) k) ≡ true → is_le (key_cmp (key_of p) k) ≡ true
from_prefix p k low = at p.parts low
  where
    at : (ps : List Part) → is_le (key_cmp (key_at (first_key p.table) p.table ps) k) ≡ true
        → is_le (ordering_then (nat_cmp p.table k.table) (slice_cmp part_cmp ps k.parts)) ≡ true
    at [] low = none_le (nat_cmp p.table k.table) (least_part ∷ []) k.parts low
    at (x ∷ xs) low = low

abbrev CanBe : Key → Type 0
CanBe k = can_be k.parts ≡ true

-- what is so of all keys of a map is so of each that its entries have
each_among : (ks all : List Key) → ((k : Key) → is_among key_cmp ks k ≡ true → is_among key_cmp all k ≡ true)
    → ((k : Key) → is_among key_cmp all k ≡ true → CanBe k) → AllByRecursion CanBe ks
each_among [] all within can = tt
each_among (k ∷ ks) all within can = (
  can k (within k (or_left _ _ ((Equal-is (key_cmp k k)).1 (tied_itself key_cmp_total k)))),
  each_among ks all (λ q e. within q (or_right _ _ e)) can,
)

can_all : {X : Type 0} (es : List (Key × X)) → IsStrictlySortedBy derived_cmp (keys_of es)
    → ((k : Key) → fin.contains_key (fin.from_entries {R = key_cmp} es) k ≡ true → CanBe k) → AllByRecursion CanBe (keys_of es)
can_all es rise can = each_among (keys_of es) (keys_of es) (λ k e. e) (λ k e.
    can k (fin.contains_key-keys (fin.from_entries {R = key_cmp} es) k ∙ ap (λ es. is_among key_cmp (keys_of es) k) (entries-from_entries es rise) ∙ e))

module _ {X : Type 0} (p : Prefix) where
  -- those at the front that are under it
  abbrev pub front_under : List (Key × X) → List Key
  front_under [] = []
  front_under (e ∷ es) = if is_under p e.0 then e.0 ∷ front_under es else []

  abbrev pub all_under : List (Key × X) → List Key
  all_under es = filter (is_under p) (keys_of es)

  abbrev from_least : List (Key × X) → List (Key × X)
  from_least es = filter (λ e. is_le (key_cmp (least_of p) e.0)) es

  -- behind a key that is past it, no key is under it
  none_behind : (k : Key) (es : List (Key × X)) → is_le (key_cmp (key_of p) k) ≡ true → is_under p k ≡ false → AllByRecursion (λ y. key_cmp k y ≡ Less)
      (keys_of es) → all_under es ≡ []
  none_behind k [] low out below = refl
  none_behind k (e ∷ es) low out below = elim (is_under p e.0) as (λ b. is_under p e.0 ≡ b → cond b (e.0 ∷ all_under es) (all_under es) ≡ []) [
    | true ↦ λ u. cc (sym out ∙ between_under p k e.0 low below.0 u)
    | false ↦ λ u. none_behind k es low out below.1
  ] refl

  -- where all keys are past its place
  front_is : (es : List (Key × X)) → AllByRecursion (λ y. is_le (key_cmp (key_of p) y) ≡ true) (keys_of es) → IsStrictlySortedBy key_cmp (keys_of es)
      → front_under es ≡ all_under es
  front_is [] low rise = refl
  front_is (e ∷ es) low rise = elim (is_under p e.0) as (λ b. is_under p e.0 ≡ b → (if b then e.0 ∷ front_under es else [])
      ≡ cond b (e.0 ∷ all_under es) (all_under es)) [
        | true ↦ λ u. ap (λ ks. e.0 ∷ ks) (front_is es low.1 (sorted_tail key_cmp e.0 (keys_of es) rise))
        | false ↦ λ u. sym (none_behind e.0 es low.0 u (sorted_head key_cmp e.0 (keys_of es) rise))
      ] refl

  past : (l k : Key) (es : List (Key × X)) → is_le (key_cmp l k) ≡ true → AllByRecursion (λ y. key_cmp k y ≡ Less) (keys_of es)
      → AllByRecursion (λ y. is_le (key_cmp l y) ≡ true) (keys_of es)
  past l k [] low below = tt
  past l k (e ∷ es) low below = (ap is_le (le_lt l k e.0 low below.0), past l k es low below.1)

  kept_all : (es : List (Key × X)) → AllByRecursion (λ y. is_le (key_cmp (least_of p) y) ≡ true) (keys_of es) → from_least es ≡ es
  kept_all [] low = refl
  kept_all (e ∷ es) low = ap (λ b. cond b (e ∷ from_least es) (from_least es)) low.0 ∙ ap (λ l. e ∷ l) (kept_all es low.1)

  pub range_is : (es : List (Key × X)) → AllByRecursion CanBe (keys_of es) → IsStrictlySortedBy key_cmp (keys_of es)
      → front_under (from_least es) ≡ all_under es
  range_is [] can rise = refl
  range_is (e ∷ es) can rise = elim (is_le (key_cmp (least_of p) e.0))
      as (λ b. is_le (key_cmp (least_of p) e.0) ≡ b → front_under (cond b (e ∷ from_least es) (from_least es)) ≡ all_under (e ∷ es)) [
        | true ↦ λ low.
            let below = sorted_head key_cmp e.0 (keys_of es) rise in
            let first = from_prefix p e.0 low in
            ap (λ l. front_under (e ∷ l)) (kept_all es (past (least_of p) e.0 es low below))
            ∙ front_is (e ∷ es) (first, past (key_of p) e.0 es first below) rise
        | false ↦ λ low. range_is es can.1 (sorted_tail key_cmp e.0 (keys_of es) rise)
            ∙ elim (is_under p e.0) as (λ b. is_under p e.0 ≡ b → all_under es ≡ cond b (e.0 ∷ all_under es) (all_under es)) [
              | true ↦ λ u. cc (sym low ∙ above_least p e.0 can.0 u)
              | false ↦ λ u. refl
            ] refl
      ] refl

  between_is : (least : Key) → least ≡ least_of p → (es : List (Key × X)) → entries_between derived_cmp (Included least) Unbounded es ≡ from_least es
  between_is least is [] = refl
  between_is least is (e ∷ es) =
      let same = with_true (is_le (derived_cmp least e.0)) ∙ ap is_le (derived-is least e.0) ∙ ap (λ k. is_le (key_cmp k e.0)) is in
      λ i. cond (same i) (e ∷ between_is least is es i) (between_is least is es i)

  -- what a search from such a key finds at its front
  pub found_under : (least : Key) → least ≡ least_of p → (es : List (Key × X))
      → ((k : Key) → fin.contains_key (fin.from_entries {R = key_cmp} es) k ≡ true → CanBe k) → IsStrictlySortedBy derived_cmp (keys_of es)
      → front_under (entries_between derived_cmp (Included least) Unbounded es) ≡ filter (is_under p) (fin.keys (fin.from_entries {R = key_cmp} es))
  found_under least is es can rise = ap front_under (between_is least is es)
      ∙ range_is es (can_all es rise can) (subst (λ cmp. IsStrictlySortedBy cmp (keys_of es)) derived_same rise)
      ∙ ap (λ es. filter (is_under p) (keys_of es)) (sym (entries-from_entries es rise))
