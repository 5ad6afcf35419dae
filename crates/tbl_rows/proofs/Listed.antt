-- Lists of rows with their keys, of which no two have one key, and the maps that they make.
use Rattle.std.proofs.Common.{◌≡◌, ◌+◌, ◌<◌, List, [], ◌∷◌, ◌++◌, length, Some, None, Bool, cond, true, false, ◌&&◌, refl, sym, ap, subst, ◌∙◌, map, arith}
use Rattle.std.specs.Prelude.{T, slice_index_or}
use Rattle.std.specs.Option.{IsSome, option_or}
use Rattle.std.specs.List.{AllByRecursion, IsDistinct, Contains}
use Rattle.std.specs.List.Sorted.{IsStrictlySortedBy, IsPermutation, IsSortedBy}
use Rattle.std.specs.Map.{keys_of, lookup}
use Rattle.std.specs.Map.Iter.{deref_pair}
use Rattle.std.specs.Borrow.{Bor}
use Rattle.std.specs.Cmp.{eq_by_cmp_equiv}
use Rattle.std.specs.Ordering.{eq_by_cmp, is_lt, is_eq, ordering_reverse}
use Rattle.std.specs.declared.cmp.Ordering.{Ordering}
use Rattle.std.specs.declared.cmp.Ordering.TheVariants.{Less, Equal, Greater}
use Rattle.std.specs.FinMap as fin
use Rattle.std.specs.FinMap.Entries.{below_all, put, by_order}
use Rattle.std.proofs.lemmas.List.{get_or-map, length-map}
use Rattle.std.proofs.lemmas.List.Sorted.{IsPermutation-refl, IsPermutation-cons, IsPermutation-middle, IsPermutation-trans, IsPermutation-map, IsPermutation-sym, IsPermutation-append_right, Contains-permutation, length_permutation}
use Rattle.std.proofs.lemmas.Map.Entries.{place_from_lookup, lookup_from_place, length-keys_of}
use Rattle.std.proofs.lemmas.Map.Keys.{IsDistinct-IsPermutation, IsDistinct-head, IsDistinct-tail, IsDistinct-cons, apart_from_distinct, sorted_from_all_adjacent}
use Rattle.std.proofs.lemmas.Option.{get_or_from_slice_get, slice_get-get_or, slice_get_within}
use Rattle.aria_base.specs.Orders.{key_cmp, Cells, Database}
use Rattle.aria_base.specs.declared.keys.Key.{Key}
use Rattle.aria_base.proofs.Orders.{key_cmp_total, derived_cmp, derived-is, same_key}
use Rattle.tbl_rows.specs.Pools.{Entries, AllApart, Adds}
use Rattle.aria_base.proofs.Trees.{entries-is, find-append}

pub nil_apart : AllApart []
unfolding IsDistinct
nil_apart = tt

none_found : (k : Key) (es : Entries) → fin.find key_cmp k es ≡ None → AllByRecursion (λ y. eq_by_cmp key_cmp k y ≡ false) (keys_of es)
none_found k [] none = tt
none_found k (e ∷ es) none =
    elim (eq_by_cmp key_cmp k e.0) as (λ b. cond b (Some e.1) (fin.find key_cmp k es) ≡ None
    → (b ≡ false) × AllByRecursion (λ y. eq_by_cmp key_cmp k y ≡ false) (keys_of es)) [
      | true ↦ λ some. cc
      | false ↦ λ rest. (refl, none_found k es rest)
    ] none

find_none : (k : Key) (es : Entries) → AllByRecursion (λ y. eq_by_cmp key_cmp k y ≡ false) (keys_of es) → fin.find key_cmp k es ≡ None
find_none k [] apart = refl
find_none k (e ∷ es) apart = ap (λ b. cond b (Some e.1) (fin.find key_cmp k es)) apart.0 ∙ find_none k es apart.1

-- the first has a key that the others do not have
pub find-head : (e : Key × Cells) (es : Entries) → AllApart (e ∷ es) → fin.find key_cmp e.0 es ≡ None
find-head e es apart = find_none e.0 es (IsDistinct-head _ e.0 (keys_of es) apart)

pub apart-cons : (e : Key × Cells) (es : Entries) → fin.find key_cmp e.0 es ≡ None → AllApart es → AllApart (e ∷ es)
apart-cons e es none apart = IsDistinct-cons _ e.0 (keys_of es) (none_found e.0 es none) apart

pub apart-tail : (e : Key × Cells) (es : Entries) → AllApart (e ∷ es) → AllApart es
apart-tail e es apart = IsDistinct-tail _ e.0 (keys_of es) apart

some_more : (q : Key) (x : Key × Cells) (xs : Entries) → IsSome (fin.find key_cmp q xs) → IsSome (fin.find key_cmp q (x ∷ xs))
some_more q x xs some = elim (eq_by_cmp key_cmp q x.0) as (λ b. IsSome (cond b (Some x.1) (fin.find key_cmp q xs))) [ true ↦ refl | false ↦ some ]

some_first : (x : Key × Cells) (xs : Entries) → IsSome (fin.find key_cmp x.0 (x ∷ xs))
some_first x xs = subst (λ b. IsSome (cond b (Some x.1) (fin.find key_cmp x.0 xs))) (sym ((eq_by_cmp_equiv key_cmp_total).refl x.0)) refl

pub apart-append : (xs ys : Entries) → AllApart xs → AllApart ys → ((q : Key) → IsSome (fin.find key_cmp q xs) → fin.find key_cmp q ys ≡ None)
    → AllApart (xs ++ ys)
apart-append [] ys first second apart = second
apart-append (x ∷ xs) ys first second apart =
    let none : fin.find key_cmp x.0 (xs ++ ys) ≡ None =
    find-append x.0 xs ys ∙ ap (λ row. option_or row (fin.find key_cmp x.0 ys)) (find-head x xs first) ∙ apart x.0 (some_first x xs) in
    apart-cons x (xs ++ ys) none (apart-append xs ys (apart-tail x xs first) second (λ q some. apart q (some_more q x xs some)))

-- ---- the entries of a map

halves : (a b : Bool) → T (a && b) → T a × T b
halves true b p = (tt, p)
halves false b p = absurd p

apart_from_less : (r : Ordering) → T (is_lt r) → is_eq r ≡ false
apart_from_less Less p = refl
apart_from_less Equal p = absurd p
apart_from_less Greater p = refl

all_apart : (k : Key) (es : Entries) → T (below_all key_cmp k es) → AllByRecursion (λ y. eq_by_cmp key_cmp k y ≡ false) (keys_of es)
all_apart k [] below = tt
all_apart k (e ∷ es) below = let h = halves _ _ below in (apart_from_less _ h.0, all_apart k es h.1)

apart_from_sorted : (es : Entries) → T (fin.is_sorted key_cmp es) → AllApart es
apart_from_sorted [] rise = nil_apart
apart_from_sorted (e ∷ es) rise = let h = halves _ _ rise in IsDistinct-cons _ e.0 (keys_of es) (all_apart e.0 es h.0) (apart_from_sorted es h.1)

pub apart-entries : (m : Database) → AllApart (fin.entries m)
apart-entries m = apart_from_sorted _ (fin.entries_sorted m)

-- ---- entries that change places

pub found-lookup : (q : Key) (es : Entries) → lookup (eq_by_cmp key_cmp q) es ≡ fin.find key_cmp q es
found-lookup q [] = refl
found-lookup q (e ∷ es) = ap (cond (eq_by_cmp key_cmp q e.0) (Some e.1)) (found-lookup q es)

pub apart-permutation : (es fs : Entries) → IsPermutation es fs → AllApart es → AllApart fs
apart-permutation es fs moved apart = IsDistinct-IsPermutation (eq_by_cmp key_cmp) ((eq_by_cmp_equiv key_cmp_total).symm) (keys_of es) (keys_of fs)
    (IsPermutation-map (λ e. e.0) es fs moved) apart

-- what is found stays found
found-permutation : (es fs : Entries) (q : Key) (row : Cells) → AllApart fs → IsPermutation es fs → fin.find key_cmp q es ≡ Some row
    → fin.find key_cmp q fs ≡ Some row
found-permutation es fs q row apart moved some =
    let place = place_from_lookup (eq_by_cmp key_cmp q) es row (found-lookup q es ∙ some) in
    let same : place.1 ≡ q = sym (same_key q place.1 place.3) in
    let here : Contains es (q, row) = (
      place.0,
      slice_get_within es place.0 (place.1, row) place.2,
      get_or_from_slice_get es place.0 (q, row) (q, row) (place.2
          ∙ ap (λ k. Some (k, row)) same),
    ) in
    let there = Contains-permutation es fs (q, row) moved here in
    sym (found-lookup q fs) ∙ lookup_from_place (eq_by_cmp_equiv key_cmp_total) fs there.0 q row apart (slice_get-get_or fs there.0 (q, row) there.1
    ∙ ap Some there.2)

pub find-permutation : (es fs : Entries) (q : Key) → AllApart es → IsPermutation es fs → fin.find key_cmp q es ≡ fin.find key_cmp q fs
find-permutation es fs q first moved =
    let second = apart-permutation es fs moved first in
    elim (fin.find key_cmp q es) as (λ row. fin.find key_cmp q es ≡ row → row ≡ fin.find key_cmp q fs) [
      | Some row ↦ λ some. sym (found-permutation es fs q row second moved some)
      | None ↦ λ none.
          elim (fin.find key_cmp q fs) as (λ row. fin.find key_cmp q fs ≡ row → None ≡ row) [
            | Some row ↦ λ some. sym none ∙ found-permutation fs es q row first (IsPermutation-sym es fs moved) some
            | None ↦ λ _. refl
          ] refl
    ] refl

nil_rises : IsStrictlySortedBy key_cmp []
unfolding IsStrictlySortedBy
nil_rises = tt

put-permuted : (k : Key) (row : Cells) (es : Entries) → fin.find key_cmp k es ≡ None → IsPermutation ((k, row) ∷ es) (put key_cmp k row es)
put-permuted k row [] none = IsPermutation-refl _
put-permuted k row (e ∷ es) none =
    elim (key_cmp k e.0) as (λ r. cond (is_eq r) (Some e.1) (fin.find key_cmp k es) ≡ None
    → IsPermutation ((k, row) ∷ e ∷ es) (by_order r ((k, row) ∷ e ∷ es) ((e.0, row) ∷ es) (e ∷ put key_cmp k row es))) [
      | Less ↦ λ _. IsPermutation-refl _
      | Equal ↦ λ some. cc
      | Greater ↦ λ rest. IsPermutation-trans _ _ _ (IsPermutation-sym _ _ (IsPermutation-middle (e ∷ []) (k, row) es))
          (IsPermutation-cons e _ _ (put-permuted k row es rest))
    ] none

-- a list of rows with their keys is that of its map in another order
pub entries-permuted : (es : Entries) → AllApart es → IsPermutation es (fin.entries (fin.from_entries {R = key_cmp} es))
entries-permuted [] apart = rw (entries-is fin.empty [] nil_rises (fin.get-empty key_cmp)) (IsPermutation-refl [])
entries-permuted (e ∷ es) apart =
    let none : fin.find key_cmp e.0 (fin.entries (fin.from_entries {R = key_cmp} es)) ≡ None =
    sym (fin.get-entries (fin.from_entries {R = key_cmp} es) e.0) ∙ fin.get-from_entries key_cmp_total es e.0 ∙ find-head e es apart in
    rw (fin.entries-insert key_cmp_total (fin.from_entries {R = key_cmp} es) e.0 e.1)
    (IsPermutation-trans _ _ _ (IsPermutation-cons e _ _ (entries-permuted es (apart-tail e es apart))) (put-permuted e.0 e.1 _ none))

-- such a list appended is the rows of its map added
pub adds-listed : (es before : Entries) → AllApart es → Adds (fin.from_entries es) before (before ++ es)
adds-listed es before apart = IsPermutation-append_right before _ _ (IsPermutation-sym _ _ (entries-permuted es apart))

pub len-listed : (es : Entries) → AllApart es → fin.len (fin.from_entries {R = key_cmp} es) ≡ length es
len-listed es apart = fin.len-entries (fin.from_entries {R = key_cmp} es) ∙ length_permutation es _ (entries-permuted es apart)

-- neighbours that do not fall and differ rise
rises : (r s : Ordering) → s ≡ ordering_reverse r → is_lt s ≡ false → is_eq r ≡ false → r ≡ Less
rises Less s back falls apart = refl
rises Equal s back falls apart = cc
rises Greater s back falls apart = absurd (subst (λ b. T b) (sym (ap is_lt back) ∙ falls) tt)

rise : (fs : Entries) → AllApart fs → IsSortedBy (λ a b. is_lt (key_cmp a.0 b.0)) fs → IsStrictlySortedBy key_cmp (keys_of fs)
rise [] apart sorted = nil_rises
rise (f ∷ fs) apart sorted =
    sorted_from_all_adjacent key_cmp_total (keys_of (f ∷ fs)) f.0 (λ k below.
    let inside : k + 1 < length (f ∷ fs) = subst (λ n. k + 1 < n) (length-keys_of (f ∷ fs)) below in
    let keys = keys_of (f ∷ fs) in
    let here = get_or-map (λ e. e.0) (f ∷ fs) k f f.0 (omega (arith, inside)) in
    let next = get_or-map (λ e. e.0) (f ∷ fs) (k + 1) f f.0 inside in
    rises (key_cmp (slice_index_or keys k f.0) (slice_index_or keys (k + 1) f.0)) (key_cmp (slice_index_or keys (k + 1) f.0) (slice_index_or keys k f.0))
    (key_cmp_total.antisymm (slice_index_or keys (k + 1) f.0) (slice_index_or keys k f.0))
    ((λ i. is_lt (key_cmp (next i) (here i))) ∙ sorted k f (omega arith) inside)
    (apart_from_distinct (eq_by_cmp key_cmp) (keys_of (f ∷ fs)) k (k + 1) f.0 apart (omega arith) below))

-- elements in order by what f shows of them
sorted-map : {X Y : Type 0} (f : X → Y) (lt : Y → Y → Bool) (xs : List X) → IsSortedBy (λ a b. lt (f a) (f b)) xs → IsSortedBy lt (map f xs)
sorted-map f lt [] sorted k d low below = absurd (omega (arith, below))
sorted-map f lt (x ∷ xs) sorted k d low below =
    let inside : k + 1 < length (x ∷ xs) = subst (λ n. k + 1 < n) (length-map (x ∷ xs) f) below in
    let here = get_or-map f (x ∷ xs) k x d (omega (arith, inside)) in
    let next = get_or-map f (x ∷ xs) (k + 1) x d inside in
    (λ i. lt (next i) (here i)) ∙ sorted k x low inside

-- the rows of a map, sorted by their keys, are its entries
pub entries-sorted : (m : Database) (rows sorted : List (Bor Key × Bor Cells)) → IsPermutation (fin.entries m) (map deref_pair rows)
    → IsPermutation rows sorted → IsSortedBy (λ a b. is_lt (derived_cmp a.0.now b.0.now)) sorted → map deref_pair sorted ≡ fin.entries m
entries-sorted m rows sorted all moved rising =
    let fs = map deref_pair sorted in
    let moved : IsPermutation (fin.entries m) fs = IsPermutation-trans _ _ _ all (IsPermutation-map deref_pair rows sorted moved) in
    let ordered : IsSortedBy (λ a b. is_lt (key_cmp a.0 b.0)) fs =
    λ k d low below. sym (ap is_lt (derived-is (slice_index_or fs (k + 1) d).0 (slice_index_or fs k d).0))
    ∙ sorted-map deref_pair (λ a b. is_lt (derived_cmp a.0 b.0)) sorted rising k d low below in
    sym (entries-is m fs (rise fs (apart-permutation _ fs moved (apart-entries m)) ordered) (λ q. fin.get-entries m q
    ∙ find-permutation (fin.entries m) fs q (apart-entries m) moved))
