-- Maps that are one map together: each key's row stands in the map of its home.
use Rattle.std.proofs.Common.{◌≡◌, ◌≢◌, ℕ, zero, suc, ◌+◌, ◌<◌, List, [], ◌∷◌, ◌++◌, length, Option, Some, None, cond, true, false, refl, sym, ap, subst, ◌∙◌, ⊎_elim, arith, append_assoc}
use Rattle.std.specs.Prelude.{slice_index_or, slice_set}
use Rattle.std.specs.Option.{IsSome, option_or}
use Rattle.std.specs.List.{flat_map}
use Rattle.std.specs.List.Sorted.{IsPermutation}
use Rattle.std.specs.Ordering.{eq_by_cmp}
use Rattle.std.specs.FinMap as fin
use Rattle.std.proofs.lemmas.Bool.{cases_eq}
use Rattle.std.proofs.lemmas.List.Sorted.{IsPermutation-sym, IsPermutation-trans, IsPermutation-append_left, IsPermutation-append_right}
use Rattle.std.proofs.lemmas.List.{append-nil, get_or_default, get_or-set_same, get_or-set_other, length-set}
use Rattle.aria_base.specs.Orders.{key_cmp, Cells, Database}
use Rattle.aria_base.specs.declared.keys.Key.{Key}
use Rattle.aria_base.proofs.Orders.{key_cmp_total, key_cmp-IsAntisymmetric, same_key}
use Rattle.tbl_rows.specs.Pools.{Entries, AllApart, Adds, pooled, IsSpread}
use Rattle.aria_base.proofs.Trees.{find-append}
use Rattle.tbl_rows.proofs.Searched.{apart_stays, or_none}
use Rattle.tbl_rows.proofs.Listed.{nil_apart, apart-append, apart-entries, entries-permuted}

abbrev pub listed : List Database → Entries
listed ms = flat_map fin.entries ms

-- maps with the numbers from n on
abbrev From : (Key → ℕ) → ℕ → List Database → Type 0
From h n ms = (i : ℕ) (d : Database) → i < length ms → (q : Key) → IsSome (fin.get (slice_index_or ms i d) q) → h q ≡ n + i

after : (h : Key → ℕ) (n : ℕ) (m : Database) (ms : List Database) → From h n (m ∷ ms) → From h (suc n) ms
after h n m ms own i d below q some = own (suc i) d (omega (arith, below)) q some ∙ omega arith

elsewhere : (h : Key → ℕ) (n : ℕ) (m : Database) (ms : List Database) → From h n (m ∷ ms) → (q : Key) → h q ≢ n → fin.find key_cmp q (fin.entries m) ≡ None
elsewhere h n m ms own q apart =
    sym (fin.get-entries m q)
    ∙ elim (fin.get m q) as (λ row. (IsSome row → h q ≡ n) → row ≡ None) [
      | None ↦ λ _. refl
      | Some row ↦ λ at. absurd (apart (at refl))
    ] (λ some. own 0 m (omega arith) q some ∙ omega arith)

find-past : (h : Key → ℕ) (n : ℕ) (ms : List Database) (q : Key) → From h n ms → h q < n → fin.find key_cmp q (listed ms) ≡ None
find-past h n [] q own below = refl
find-past h n (m ∷ ms) q own below =
    find-append q (fin.entries m) (listed ms)
    ∙ ap (λ row. option_or row (fin.find key_cmp q (listed ms))) (elsewhere h n m ms own q (omega (arith, below)))
    ∙ find-past h (suc n) ms q (after h n m ms own) (omega (arith, below))

find-from : (h : Key → ℕ) (n : ℕ) (ms : List Database) (q : Key) (i : ℕ) (d : Database) → From h n ms → h q ≡ n + i → i < length ms
    → fin.find key_cmp q (listed ms) ≡ fin.get (slice_index_or ms i d) q
find-from h n [] q i d own at below = absurd (omega (arith, below))
find-from h n (m ∷ ms) q zero d own at below =
    find-append q (fin.entries m) (listed ms)
    ∙ ap (λ row. option_or (fin.find key_cmp q (fin.entries m)) row) (find-past h (suc n) ms q (after h n m ms own) (omega (arith, at)))
    ∙ or_none (fin.find key_cmp q (fin.entries m)) ∙ sym (fin.get-entries m q)
find-from h n (m ∷ ms) q (suc i) d own at below =
    find-append q (fin.entries m) (listed ms)
    ∙ ap (λ row. option_or row (fin.find key_cmp q (listed ms))) (elsewhere h n m ms own q (omega (arith, at)))
    ∙ find-from h (suc n) ms q i d (after h n m ms own) (at ∙ omega arith) (omega (arith, below))

apart-from : (h : Key → ℕ) (n : ℕ) (ms : List Database) → From h n ms → AllApart (listed ms)
apart-from h n [] own = nil_apart
apart-from h n (m ∷ ms) own =
    apart-append (fin.entries m) (listed ms) (apart-entries m) (apart-from h (suc n) ms (after h n m ms own))
    (λ q some.
    let at : h q ≡ n = own 0 m (omega arith) q (subst IsSome (sym (fin.get-entries m q)) some) ∙ omega arith in
    find-past h (suc n) ms q (after h n m ms own) (omega (arith, at)))

from_zero : (h : Key → ℕ) (ms : List Database) → IsSpread h ms → From h 0 ms
from_zero h ms spread i d below q some = spread.own i d below q some ∙ omega arith

pub get-pooled : (h : Key → ℕ) (ms : List Database) → IsSpread h ms → (q : Key) → fin.get (pooled ms) q ≡ fin.get (slice_index_or ms (h q) fin.empty) q
get-pooled h ms spread q = fin.get-from_entries key_cmp_total (listed ms) q
    ∙ find-from h 0 ms q (h q) fin.empty (from_zero h ms spread) (omega arith) (spread.below q)

pub listed-permuted : (h : Key → ℕ) (ms : List Database) → IsSpread h ms → IsPermutation (listed ms) (fin.entries (pooled ms))
listed-permuted h ms spread = entries-permuted (listed ms) (apart-from h 0 ms (from_zero h ms spread))

-- m stands at the place i, the home of q
pub get-home : (h : Key → ℕ) (ms : List Database) (i : ℕ) (m : Database) (q : Key) → IsSpread h ms → i ≡ h q → m ≡ slice_index_or ms i m
    → fin.get m q ≡ fin.get (pooled ms) q
get-home h ms i m q spread at is =
    let below : i < length ms = omega (arith, at, spread.below q) in
    ap (λ s. fin.get s q) (is ∙ get_or_default ms i m fin.empty below) ∙ ap (λ n. fin.get (slice_index_or ms n fin.empty) q) at ∙ sym (get-pooled h ms spread q)

-- ---- a map changes at a key whose home it is

abbrev Changed : Database → Database → Key → Option Cells → Type 0
Changed old new k w = (q : Key) → fin.get new q ≡ cond (eq_by_cmp key_cmp q k) w (fin.get old q)

spread-changed : (h : Key → ℕ) (ms : List Database) (i : ℕ) (old new : Database) (k : Key) (w : Option Cells) → IsSpread h ms → i ≡ h k
    → old ≡ slice_index_or ms i old → Changed old new k w → IsSpread h (slice_set ms i new)
spread-changed h ms i old new k w spread at stood is =
    let inside : i < length ms = omega (arith, at, spread.below k) in
    let here : (q : Key) → IsSome (fin.get new q) → h q ≡ i = λ q some.
    elim (eq_by_cmp key_cmp q k) as (λ b. eq_by_cmp key_cmp q k ≡ b → IsSome (cond b w (fin.get old q)) → h q ≡ i) [
      | true ↦ λ tied _. ap h (same_key q k tied) ∙ sym at
      | false ↦ λ _ there. spread.own i old inside q (subst (λ s. IsSome (fin.get s q)) stood there)
    ] refl (subst IsSome (is q) some) in record {
      below = λ q. subst (λ n. h q < n) (sym (length-set ms i new)) (spread.below q);
      own = λ j d below q some.
          let below : j < length ms = subst (λ n. j < n) (length-set ms i new) below in
          ⊎_elim
          (λ e. here q (subst (λ s. IsSome (fin.get s q)) (ap (λ n. slice_index_or (slice_set ms i new) n d) e ∙ get_or-set_same ms i new d inside) some)
          ∙ sym e)
          (λ apart. spread.own j d below q (subst (λ s. IsSome (fin.get s q)) (get_or-set_other ms i j new d apart) some))
          (cases_eq j i);
    }

pooled-changed : (h : Key → ℕ) (ms : List Database) (i : ℕ) (old new : Database) (k : Key) (w : Option Cells) → IsSpread h ms → i ≡ h k
    → old ≡ slice_index_or ms i old → Changed old new k w → Changed (pooled ms) (pooled (slice_set ms i new)) k w
pooled-changed h ms i old new k w spread at stood is q =
    let inside : i < length ms = omega (arith, at, spread.below k) in
    get-pooled h (slice_set ms i new) (spread-changed h ms i old new k w spread at stood is) q
    ∙ ⊎_elim
    (λ e. ap (λ n. fin.get (slice_index_or (slice_set ms i new) n fin.empty) q) e
    ∙ ap (λ s. fin.get s q) (get_or-set_same ms i new fin.empty inside)
    ∙ is q ∙ ap (cond (eq_by_cmp key_cmp q k) w) (ap (λ s. fin.get s q) (stood ∙ get_or_default ms i old fin.empty inside)
    ∙ ap (λ n. fin.get (slice_index_or ms n fin.empty) q) (sym e)))
    (λ apart. ap (λ s. fin.get s q) (get_or-set_other ms i (h q) new fin.empty apart)
    ∙ sym (apart_stays q k w (fin.get (slice_index_or ms (h q) fin.empty) q) (λ e. apart (ap h e ∙ sym at))))
    (cases_eq (h q) i)
    ∙ ap (cond (eq_by_cmp key_cmp q k) w) (sym (get-pooled h ms spread q))

inserted : (old new : Database) (k : Key) (row : Cells) → new ≡ fin.insert old k row → Changed old new k (Some row)
inserted old new k row put q = ap (λ m. fin.get m q) put ∙ fin.get-insert key_cmp_total old k row q

removed : (old new : Database) (k : Key) → new ≡ fin.remove old k → Changed old new k None
removed old new k gone q = ap (λ m. fin.get m q) gone ∙ fin.get-remove key_cmp_total old k q

pub spread-put : (h : Key → ℕ) (ms : List Database) (i : ℕ) (old new : Database) (k : Key) (row : Cells) → IsSpread h ms → i ≡ h k
    → old ≡ slice_index_or ms i old → new ≡ fin.insert old k row → IsSpread h (slice_set ms i new)
spread-put h ms i old new k row spread at stood put = spread-changed h ms i old new k (Some row) spread at stood (inserted old new k row put)

pub pooled-put : (h : Key → ℕ) (ms : List Database) (i : ℕ) (old new : Database) (k : Key) (row : Cells) → IsSpread h ms → i ≡ h k
    → old ≡ slice_index_or ms i old → new ≡ fin.insert old k row → pooled (slice_set ms i new) ≡ fin.insert (pooled ms) k row
pooled-put h ms i old new k row spread at stood put = fin.same_map key_cmp_total key_cmp-IsAntisymmetric _ _ (λ q.
    pooled-changed h ms i old new k (Some row) spread at stood (inserted old new k row put) q ∙ sym (fin.get-insert key_cmp_total (pooled ms) k row q))

pub spread-deleted : (h : Key → ℕ) (ms : List Database) (i : ℕ) (old new : Database) (k : Key) → IsSpread h ms → i ≡ h k → old ≡ slice_index_or ms i old
    → new ≡ fin.remove old k → IsSpread h (slice_set ms i new)
spread-deleted h ms i old new k spread at stood gone = spread-changed h ms i old new k None spread at stood (removed old new k gone)

pub pooled-deleted : (h : Key → ℕ) (ms : List Database) (i : ℕ) (old new : Database) (k : Key) → IsSpread h ms → i ≡ h k → old ≡ slice_index_or ms i old
    → new ≡ fin.remove old k → pooled (slice_set ms i new) ≡ fin.remove (pooled ms) k
pooled-deleted h ms i old new k spread at stood gone = fin.same_map key_cmp_total key_cmp-IsAntisymmetric _ _ (λ q.
    pooled-changed h ms i old new k None spread at stood (removed old new k gone) q ∙ sym (fin.get-remove key_cmp_total (pooled ms) k q))

-- ---- the rows of all maps, added to a list map after map

pub adds-more : (before out new : Entries) (m : Database) (ms rest : List Database) → ms ≡ m ∷ rest → IsPermutation before (out ++ listed ms) → Adds m out new
    → IsPermutation before (new ++ listed rest)
adds-more before out new m ms rest step all adds =
    IsPermutation-trans _ _ _ all
    (subst (λ es. IsPermutation es (new ++ listed rest)) (append_assoc out (fin.entries m) (listed rest) ∙ ap (λ ms. out ++ listed ms) (sym step))
    (IsPermutation-append_left (listed rest) _ _ adds))

pub adds-all : (h : Key → ℕ) (ms : List Database) (before out : Entries) (left : List Database) → IsSpread h ms
    → IsPermutation (before ++ listed ms) (out ++ listed left) → left ≡ [] → Adds (pooled ms) before out
adds-all h ms before out left spread all ended =
    IsPermutation-trans _ _ _ (IsPermutation-append_right before _ _ (IsPermutation-sym _ _ (listed-permuted h ms spread)))
    (subst (λ es. IsPermutation (before ++ listed ms) es) (ap (λ ms. out ++ listed ms) ended ∙ append-nil out) all)
