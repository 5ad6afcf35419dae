-- Rows whose keys rise are the entries of the database that they make.
use Rattle.std.proofs.Common.{◌≡◌, ℕ, zero, suc, ◌+◌, ◌-◌, ◌<◌, List, [], ◌∷◌, ◌++◌, length, get_or, Option, Some, None, Bool, true, false, cond, refl, ap, subst, sym, ◌∙◌, arith, rules}
use Rattle.std.specs.Prelude.{All, option_map, ◌&&◌, T}
use Rattle.std.proofs.lemmas.List.Elements.{All-head, All-tail}
use Rattle.std.specs.List.{slice_get}
use Rattle.std.specs.declared.cmp.Ordering.{Ordering}
use Rattle.std.specs.declared.cmp.Ordering.TheVariants.{Less, Equal, Greater}
use Rattle.std.specs.Ordering.{is_lt, is_eq, eq_by_cmp, ordering_reverse}
use Rattle.std.proofs.lemmas.Bool.{and_parts, and_from}
use Rattle.std.proofs.lemmas.Grind.{common_steps}
use Rattle.std.specs.FinMap as fin
use Rattle.std.specs.FinMap.Entries as list
use Rattle.aria_base.specs.Orders.{Cells, Database, key_cmp}
use Rattle.aria_base.specs.declared.keys.Key.{Key}
use Rattle.aria_base.proofs.Orders.{key_cmp_total, key_cmp-IsAntisymmetric}
use Rattle.image_text.specs.Entries.{is_above, last_key}

abbrev Rows : Type 0
Rows = List (Key × Cells)

-- the keys rise behind this one
abbrev pub ascend : Option Key → List (Key × Cells) → Bool
ascend last [] = true
ascend last (row ∷ rows) = is_above last row.0 && ascend (Some row.0) rows

less : (r : Ordering) → is_lt r ≡ true → r ≡ Less
less Less h = refl
less Equal h = cc
less Greater h = cc

below_both : (x y : Key) (rows : Rows) → key_cmp x y ≡ Less → list.below_all key_cmp y rows ≡ true → list.below_all key_cmp x rows ≡ true
below_both x y [] p h = refl
below_both x y (e ∷ es) p h =
    let parts = and_parts (is_lt (key_cmp y e.0)) (list.below_all key_cmp y es) h in
    and_from (is_lt (key_cmp x e.0)) (list.below_all key_cmp x es) (ap is_lt (key_cmp_total.trans x y e.0 p (less (key_cmp y e.0) parts.0)))
    (below_both x y es p parts.1)

sorted : (last : Key) (rows : Rows) → ascend (Some last) rows ≡ true → (list.below_all key_cmp last rows ≡ true) × (list.is_sorted key_cmp rows ≡ true)
sorted last [] h = (refl, refl)
sorted last (row ∷ rows) h =
    let parts = and_parts (is_lt (key_cmp last row.0)) (ascend (Some row.0) rows) h in
    let r = sorted row.0 rows parts.1 in (
      and_from (is_lt (key_cmp last row.0)) (list.below_all key_cmp last rows) parts.0 (below_both last row.0 rows (less (key_cmp last row.0) parts.0) r.0),
      and_from (list.below_all key_cmp row.0 rows) (list.is_sorted key_cmp rows) r.0 r.1,
    )

rising : (rows : Rows) → ascend None rows ≡ true → list.is_sorted key_cmp rows ≡ true
rising [] h = refl
rising (row ∷ rows) h = let r = sorted row.0 rows h in and_from (list.below_all key_cmp row.0 rows) (list.is_sorted key_cmp rows) r.0 r.1

pub entries_again : (rows : List (Key × Cells)) → ascend None rows ≡ true → fin.entries (fin.from_entries {R = key_cmp} rows) ≡ rows
entries_again rows h =
    let up : fin.from_entries {R = key_cmp} rows ≡ fin.from_sorted {R = key_cmp} rows =
    fin.same_map key_cmp_total key_cmp-IsAntisymmetric (fin.from_entries rows) (fin.from_sorted rows)
    (λ q. fin.get-from_entries key_cmp_total rows q ∙ sym (fin.get-from_sorted key_cmp rows q (search (rising rows h)))) in
    ap fin.entries up ∙ fin.entries-from_sorted key_cmp rows (search (rising rows h))

-- ---- and the entries of a database rise

ascends : (last : Key) (rows : Rows) → list.below_all key_cmp last rows ≡ true → list.is_sorted key_cmp rows ≡ true → ascend (Some last) rows ≡ true
ascends last [] b s = refl
ascends last (row ∷ rows) b s =
    let first = and_parts (is_lt (key_cmp last row.0)) (list.below_all key_cmp last rows) b in
    let rest = and_parts (list.below_all key_cmp row.0 rows) (list.is_sorted key_cmp rows) s in
    and_from (is_lt (key_cmp last row.0)) (ascend (Some row.0) rows) first.0 (ascends row.0 rows rest.0 rest.1)

sorted_rise : (rows : Rows) → list.is_sorted key_cmp rows ≡ true → ascend None rows ≡ true
sorted_rise [] h = refl
sorted_rise (row ∷ rows) h =
    let rest = and_parts (list.below_all key_cmp row.0 rows) (list.is_sorted key_cmp rows) h in
    ascends row.0 rows rest.0 rest.1

is_true : (b : Bool) → T b → b ≡ true
is_true true h = refl
is_true false h = absurd h

pub entries_rise : (db : Database) → ascend None (fin.entries db) ≡ true
entries_rise db = sorted_rise (fin.entries db) (is_true _ (fin.entries_sorted db))

-- ---- each entry is found at its key

self_equal : (r : Ordering) → r ≡ ordering_reverse r → is_eq r ≡ true
self_equal Less e = cc
self_equal Equal e = refl
self_equal Greater e = cc

same_key : (x : Key) → eq_by_cmp key_cmp x x ≡ true
same_key x = self_equal (key_cmp x x) (key_cmp_total.antisymm x x)

below_at : (x : Key) (rows : Rows) → list.below_all key_cmp x rows ≡ true → (i : ℕ) (d : Key × Cells) → i < length rows → key_cmp x (get_or rows i d).0 ≡ Less
below_at x [] h i d below = absurd (omega arith)
below_at x (row ∷ rows) h zero d below = less (key_cmp x row.0) (and_parts (is_lt (key_cmp x row.0)) (list.below_all key_cmp x rows) h).0
below_at x (row ∷ rows) h (suc i) d below = below_at x rows (and_parts (is_lt (key_cmp x row.0)) (list.below_all key_cmp x rows) h).1 i d (omega arith)

apart : (x y : Key) → key_cmp x y ≡ Less → eq_by_cmp key_cmp y x ≡ false
apart x y h = ap is_eq (key_cmp_total.antisymm y x ∙ ap ordering_reverse h)

found_at : (rows : Rows) → list.is_sorted key_cmp rows ≡ true → (i : ℕ) (d : Key × Cells) → i < length rows
    → list.find key_cmp (get_or rows i d).0 rows ≡ Some (get_or rows i d).1
found_at [] h i d below = absurd (omega arith)
found_at (row ∷ rows) h zero d below = let e = same_key row.0 in rw e refl
found_at (row ∷ rows) h (suc i) d below =
    let parts = and_parts (list.below_all key_cmp row.0 rows) (list.is_sorted key_cmp rows) h in
    let e = apart row.0 (get_or rows i d).0 (below_at row.0 rows parts.0 i d (omega arith)) in
    rw e (found_at rows parts.1 i d (omega arith))

pub entry_there : (db : Database) (i : ℕ) (d : Key × Cells) → i < length (fin.entries db)
    → fin.get db (get_or (fin.entries db) i d).0 ≡ Some (get_or (fin.entries db) i d).1
entry_there db i d below = fin.get-entries db (get_or (fin.entries db) i d).0 ∙ found_at (fin.entries db) (is_true _ (fin.entries_sorted db)) i d below

-- ---- what holds of each entry holds of what is found

is_equal : (r : Ordering) → is_eq r ≡ true → r ≡ Equal
is_equal Less e = cc
is_equal Equal e = refl
is_equal Greater e = cc

all_found : (P : Key × Cells → Type 0) (rows : Rows) → All P rows → (q : Key) (row : Cells) → list.find key_cmp q rows ≡ Some row → P (q, row)
all_found P [] all q row e = cc
all_found P (r ∷ rows) all q row e = by (λ k. all_found P rows (All-tail P r rows all) q row k) (eq_by_cmp key_cmp q r.0) refl e
  where
    by : (list.find key_cmp q rows ≡ Some row → P (q, row)) → (b : Bool) → eq_by_cmp key_cmp q r.0 ≡ b
        → cond b (Some r.1) (list.find key_cmp q rows) ≡ Some row → P (q, row)
    by rest true w k =
        let key : q ≡ r.0 = key_cmp-IsAntisymmetric q r.0 (is_equal (key_cmp q r.0) w) in
        let cells : r.1 ≡ row = cc in
        let same : ◌≡◌ {A = Key × Cells} r (q, row) = λ i. (sym key i, cells i) in
        subst P same (All-head P r rows all)
    by rest false w k = rest k

pub entries_found : (P : Key × Cells → Type 0) (db : Database) → All P (fin.entries db) → (q : Key) (row : Cells) → fin.get db q ≡ Some row → P (q, row)
entries_found P db all q row e = all_found P (fin.entries db) all q row (sym (fin.get-entries db q) ∙ e)

-- ---- the last key

get_last : (rows : Rows) (row : Key × Cells) → slice_get (rows ++ row ∷ []) (length rows) ≡ Some row
get_last [] row = refl
get_last (r ∷ rows) row = get_last rows row

pub last_pushed : (rows : List (Key × Cells)) (row : Key × Cells) → last_key (rows ++ row ∷ []) ≡ Some row.0
last_pushed rows row =
    let n : length (rows ++ row ∷ []) - 1 ≡ length rows = grind (arith, common_steps) in
    ap (λ (i : ℕ). option_map (λ r. r.0) (slice_get (rows ++ row ∷ []) i)) n ∙ ap (option_map (λ r. r.0)) (get_last rows row)
