-- What the rows of order entry tell where one of them is changed, and where an open order is removed.
use Rattle.std.proofs.Common.{◌≡◌, refl, sym, ap, subst, ◌∙◌, ℕ, zero, suc, ◌+◌, ℤ, Bool, true, false, cond, not, ◌&&◌, eqb, arith}
use Rattle.std.proofs.Common.{if◌then◌else◌}
use Rattle.std.proofs.Common.{List, [], ◌∷◌, map, length, Option, Some, None}
use Rattle.std.specs.Prelude.{int_lt}
use Rattle.std.specs.FinMap as fin
use Rattle.std.specs.FinMap.Entries as list
use Rattle.std.specs.List.{filter, filter_map, list_all, cons_option, AllByRecursion}
use Rattle.std.specs.Ordering.{int_eq, int_cmp}
use Rattle.std.proofs.lemmas.Bool.{and_parts, eqb-true, eqb-false}
use Rattle.std.proofs.lemmas.Cmp.{int_eq_equiv}
use Rattle.std.proofs.lemmas.Map.Lookups.{exact_signed}
use Rattle.std.proofs.lemmas.Map.Views.{tells_apart}
use Rattle.aria_base.proofs.Orders.{key_cmp_total}
use Rattle.aria_base.specs.Kinds.{part_kind}
use Rattle.aria_base.specs.Orders.{key_cmp, Cells, Database}
use Rattle.aria_base.specs.Schemas.{Fits, IsConsistent}
use Rattle.aria_base.specs.declared.keys.Key.{Key}
use Rattle.aria_base.specs.declared.keys.Part.{Part}
use Rattle.aria_base.specs.declared.keys.Part.TheVariants as part
use Rattle.aria_base.specs.declared.values.Kind.TheVariants as kind
use Rattle.cat_builtin.specs.Warehouses as table
use Rattle.range_rules.specs.Scans.{begins, is_under, scan}
use Rattle.tpcc_audit.specs.declared.facts.District.{District}
use Rattle.tpcc_audit.specs.declared.facts.Fact.{Fact}
use Rattle.tpcc_audit.specs.declared.facts.Fact.TheVariants as fact
use Rattle.tpcc_audit.specs.declared.facts.DistrictRow.{DistrictRow}
use Rattle.tpcc_audit.specs.declared.facts.WarehouseRow.{WarehouseRow}
use Rattle.tpcc_audit.specs.Books.{warehouse_row, district_row, paid_within, order_of, due_of, open_of, line_of, total}
use Rattle.tpcc_audit.specs.Facts.{part_at, column_at, district_at, fact_of, facts_of}
use Rattle.tpcc_routines.specs.Answers.{key_at, prefix_at, is_number_part, are_numbers, is_row_under, is_behind, last_of, are_rows}
use Rattle.tpcc_routines.specs.Answers.{are_rows_behind}
use Rattle.tpcc_routines.specs.Routines.{order_number, with_number}
use Rattle.tpcc_sound.proofs.Audits.{IsClosed}
use Rattle.tpcc_sound.proofs.Entries.{Rows, ties, tied, ties-self, changed, entries-changed, entries-kept, removed-kept, each-entry}
use Rattle.tpcc_sound.proofs.Rising.{rises, rises-lower, less-irrefl}

int-is : (a b : ℤ) → int_eq a b ≡ true → a ≡ b
int-is a b e = tells_apart {R = int_cmp} exact_signed a b e

-- ---- a row that tells what the one before it told

same-Some : (x y : Cells) → Some x ≡ Some y → x ≡ y
same-Some x y e = ap (or_that x) e
  where
    or_that : Cells → Option Cells → Cells
    or_that x (Some y) = y
    or_that x None = x

facts-changed : (k : Key) (v old : Cells) (es : Rows) → list.find key_cmp k es ≡ Some old → fact_of (k, v) ≡ fact_of (k, old)
    → map fact_of (changed k v es) ≡ map fact_of es
facts-changed k v old [] found alike = refl
facts-changed k v old (e ∷ es) found alike =
    elim (ties k e.0) as (λ b. ties k e.0 ≡ b → cond b (Some e.1) (list.find key_cmp k es) ≡ Some old
    → map fact_of (cond b ((e.0, v) ∷ es) (e ∷ changed k v es)) ≡ map fact_of (e ∷ es)) [
      | true ↦ λ is f. ap (λ x. x ∷ map fact_of es)
          (subst (λ x. fact_of (x, v) ≡ fact_of (x, old)) (tied k e.0 is) alike ∙ ap (λ row. fact_of (e.0, row)) (sym (same-Some e.1 old f)))
      | false ↦ λ other f. ap (λ facts. fact_of e ∷ facts) (facts-changed k v old es f alike)
    ] refl found

pub facts-stay : (db : Database) (k : Key) (v old : Cells) → fin.get db k ≡ Some old → fact_of (k, v) ≡ fact_of (k, old)
    → facts_of (fin.insert db k v) ≡ facts_of db
facts-stay db k v old there alike = ap (map fact_of) (entries-changed db k v old there)
    ∙ facts-changed k v old (fin.entries db) (sym (fin.get-entries db k) ∙ there) alike

-- of a line, and of a customer, the key alone tells
pub line-fact : (k : Key) (one other : Cells) → k.table ≡ table.order_lines → fact_of (k, one) ≡ fact_of (k, other)
line-fact k one other e =
    subst (λ t. fact_of (record { table = t; parts = k.parts }, one) ≡ fact_of (record { table = t; parts = k.parts }, other)) (sym e) refl

pub column-stays : (row : Cells) (n : ℤ) → column_at (with_number 2 n row) 3 ≡ column_at row 3
column-stays [] n = refl
column-stays (a ∷ []) n = refl
column-stays (a ∷ b ∷ []) n = refl
column-stays (a ∷ b ∷ c ∷ row) n = refl

-- ---- a row less

-- what the removed row does not tell is told all the same
unmoved : {B : Type 0} (h : Fact → Option B) (k : Key) (es : Rows) → ((row : Cells) → h (fact_of (k, row)) ≡ None)
    → filter_map h (map fact_of (filter (λ e. not (ties k e.0)) es)) ≡ filter_map h (map fact_of es)
unmoved h k [] silent = refl
unmoved h k (e ∷ es) silent =
    elim (ties k e.0) as (λ b. ties k e.0 ≡ b
    → filter_map h (map fact_of (cond (not b) (e ∷ filter (λ e. not (ties k e.0)) es) (filter (λ e. not (ties k e.0)) es)))
    ≡ filter_map h (map fact_of (e ∷ es))) [
      | true ↦ λ is. unmoved h k es silent ∙ sym (ap (λ o. cons_option o (filter_map h (map fact_of es)))
          (subst (λ x. h (fact_of (x, e.1)) ≡ None) (tied k e.0 is) (silent e.1)))
      | false ↦ λ _. ap (cons_option (h (fact_of e))) (unmoved h k es silent)
    ] refl

facts-left : (db : Database) (k : Key) → facts_of (fin.remove db k) ≡ map fact_of (filter (λ e. not (ties k e.0)) (fin.entries db))
facts-left db k = ap (map fact_of) (ap fin.entries (removed-kept db k) ∙ entries-kept db (λ x. not (ties k x)))

-- what a row of another table is to the open orders
not-open : (at : District) (a b d e : Bool) (w : WarehouseRow) (q : DistrictRow) (x y z : District) (n m lines : ℤ)
    → open_of at (if a then fact.Warehouse w else if b then fact.District q else if false then fact.Open x n
    else if d then fact.Order y m lines else if e then fact.Line z else fact.Other) ≡ None
not-open at true b d e w q x y z n m lines = refl
not-open at false true d e w q x y z n m lines = refl
not-open at false false true e w q x y z n m lines = refl
not-open at false false false true w q x y z n m lines = refl
not-open at false false false false w q x y z n m lines = refl

eqb-turned : (a b : ℕ) → eqb a b ≡ false → eqb b a ≡ false
eqb-turned a b e = elim (eqb b a) as (λ t. eqb b a ≡ t → t ≡ false) [
  | true ↦ λ is. absurd (eqb-false a b e (sym (eqb-true b a is)))
  | false ↦ λ _. refl
] refl

open-at : (at : District) (parts : List Part) (row : Cells) → map part_kind parts ≡ kind.Int ∷ kind.Int ∷ kind.Int ∷ []
    → open_of at (fact_of (record { table = 4; parts = parts }, row))
    ≡ (if begins (part.Int at.w ∷ part.Int at.d ∷ []) parts then Some (part_at parts 2) else None)
open-at at (part.Int a ∷ part.Int b ∷ part.Int c ∷ []) row e = (λ i. if int_eq_equiv.symm a at.w i && both (int_eq_equiv.symm b at.d) i then Some c else None)
  where
    both : {x y : Bool} → x ≡ y → x ≡ (y && true)
    both {x} {y} e = e ∙ end y
      where
        end : (y : Bool) → y ≡ (y && true)
        end true = refl
        end false = refl
open-at at _ row e = let no : ⊥ = cc in absurd no

-- an open order of a district is a row under that district's prefix
open-is : (at : District) (k : Key) (row : Cells) → Fits table.tables k row
    → open_of at (fact_of (k, row)) ≡ (if is_under (prefix_at table.open_orders (at.w ∷ at.d ∷ [])) k then Some (order_number k) else None)
open-is at k row fits = elim (eqb 4 k.table) as (λ b. eqb 4 k.table ≡ b → open_of at (fact_of (k, row))
    ≡ (if b && begins (part.Int at.w ∷ part.Int at.d ∷ []) k.parts then Some (order_number k) else None)) [
      | true ↦ λ is. here (eqb-true 4 k.table is)
      | false ↦ λ other. elsewhere (eqb-turned 4 k.table other)
    ] refl
  where
    here : 4 ≡ k.table → open_of at (fact_of (k, row)) ≡ (if begins (part.Int at.w ∷ part.Int at.d ∷ []) k.parts then Some (order_number k) else None)
    here is = subst (λ t. Fits table.tables (record { table = t; parts = k.parts }) row → open_of at (fact_of (record { table = t; parts = k.parts }, row))
        ≡ (if begins (part.Int at.w ∷ part.Int at.d ∷ []) k.parts then Some (order_number k) else None)) is
        (λ fits. open-at at k.parts row fits.0) fits

    elsewhere : eqb k.table 4 ≡ false → open_of at (fact_of (k, row)) ≡ None
    elsewhere other = ap (λ b. open_of at (if eqb k.table 0 then fact.Warehouse (record { w = part_at k.parts 0; ytd = column_at row 1 })
        else if eqb k.table 1 then fact.District (record { at = district_at k.parts; ytd = column_at row 1; next = column_at row 2 })
        else if b then fact.Open (district_at k.parts) (part_at k.parts 2)
        else if eqb k.table 5 then fact.Order (district_at k.parts) (part_at k.parts 2) (column_at row 3)
        else if eqb k.table 6 then fact.Line (district_at k.parts) else fact.Other)) other
        ∙ not-open at (eqb k.table 0) (eqb k.table 1) (eqb k.table 5) (eqb k.table 6) (record { w = part_at k.parts 0; ytd = column_at row 1 })
        (record { at = district_at k.parts; ytd = column_at row 1; next = column_at row 2 }) (district_at k.parts) (district_at k.parts)
        (district_at k.parts) (part_at k.parts 2) (part_at k.parts 2) (column_at row 3)

abbrev pub numbers_of : Rows → List ℤ
numbers_of rows = map (λ e. order_number e.0) rows

opens-under : (at : District) (p : Key → Bool) (es : Rows)
    → AllByRecursion (λ e. open_of at (fact_of e) ≡ (if p e.0 then Some (order_number e.0) else None)) es
    → filter_map (open_of at) (map fact_of es) ≡ numbers_of (filter (λ e. p e.0) es)
opens-under at p [] all = refl
opens-under at p (e ∷ es) all =
    let rest = opens-under at p es all.1 in
    ap (λ o. cons_option o (filter_map (open_of at) (map fact_of es))) all.0
    ∙ elim (p e.0) as (λ b. cons_option (if b then Some (order_number e.0) else None) (filter_map (open_of at) (map fact_of es))
    ≡ numbers_of (cond b (e ∷ filter (λ e. p e.0) es) (filter (λ e. p e.0) es))) [
      | true ↦ ap (λ ns. order_number e.0 ∷ ns) rest
      | false ↦ rest
    ]

-- the numbers of a district's open orders are those of the rows that a scan finds
opens-scanned : (at : District) (db : Database) → IsConsistent table.tables db
    → filter_map (open_of at) (facts_of db) ≡ numbers_of (scan db (prefix_at table.open_orders (at.w ∷ at.d ∷ [])))
opens-scanned at db consistent =
    let p = prefix_at table.open_orders (at.w ∷ at.d ∷ []) in
    opens-under at (is_under p) (fin.entries db)
    (each-entry (λ k row. open_of at (fact_of (k, row)) ≡ (if is_under p k then Some (order_number k) else None)) db
    (λ k row found. open-is at k row (consistent k row found)))
    ∙ ap numbers_of (sym (entries-kept db (is_under p)))

-- ---- the rows that are left

filter-swap : (p q : Key × Cells → Bool) (es : Rows) → filter p (filter q es) ≡ filter q (filter p es)
filter-swap p q [] = refl
filter-swap p q (e ∷ es) =
    let rest = filter-swap p q es in
    elim (q e) as (λ b. q e ≡ b → filter p (cond b (e ∷ filter q es) (filter q es)) ≡ filter q (cond (p e) (e ∷ filter p es) (filter p es))) [
      | true ↦ λ is. elim (p e) as (λ c. cond c (e ∷ filter p (filter q es)) (filter p (filter q es)) ≡ filter q (cond c (e ∷ filter p es) (filter p es))) [
        | true ↦ ap (λ l. e ∷ l) rest ∙ sym (ap (λ b. cond b (e ∷ filter q (filter p es)) (filter q (filter p es))) is)
        | false ↦ rest
      ]
      | false ↦ λ other. elim (p e) as (λ c. filter p (filter q es) ≡ filter q (cond c (e ∷ filter p es) (filter p es))) [
        | true ↦ rest ∙ sym (ap (λ b. cond b (e ∷ filter q (filter p es)) (filter q (filter p es))) other)
        | false ↦ rest
      ]
    ] refl

-- the key of a row that passed for an open order
key-is : (w d : ℤ) (k : Key) (row : Cells) → is_row_under (prefix_at table.open_orders (w ∷ d ∷ [])) 0 k row ≡ true
    → key_at table.open_orders (w ∷ d ∷ order_number k ∷ []) ≡ k
key-is w d k row right =
    let p = prefix_at table.open_orders (w ∷ d ∷ []) in
    let first = and_parts (eqb 4 k.table && begins p.parts k.parts) (eqb (length k.parts) 3 && (list_all is_number_part k.parts && are_numbers 0 row)) right in
    let under = and_parts (eqb 4 k.table) (begins p.parts k.parts) first.0 in
    let second = and_parts (eqb (length k.parts) 3) (list_all is_number_part k.parts && are_numbers 0 row) first.1 in
    let third = and_parts (list_all is_number_part k.parts) (are_numbers 0 row) second.1 in
    λ i. record { table = eqb-true 4 k.table under.0 i; parts = parts-are k.parts (eqb-true (length k.parts) 3 second.0) third.0 under.1 i }
  where
    parts-are : (parts : List Part) → length parts ≡ 3 → list_all is_number_part parts ≡ true
        → begins (part.Int w ∷ part.Int d ∷ []) parts ≡ true → part.Int w ∷ part.Int d ∷ part.Int (part_at parts 2) ∷ [] ≡ parts
    parts-are (part.Int a ∷ part.Int b ∷ part.Int c ∷ []) some all front =
        let both = and_parts (int_eq w a) (int_eq d b && true) front in
        let last = and_parts (int_eq d b) true both.1 in
        λ i. part.Int (int-is w a both.0 i) ∷ part.Int (int-is d b last.0 i) ∷ part.Int c ∷ []
    parts-are _ some all front = let no : ⊥ = grind arith in absurd no

-- rows behind the first one have other keys
others-stay : (k : Key) (rows : Rows) → rises (order_number k) (numbers_of rows) ≡ true → filter (λ e. not (ties k e.0)) rows ≡ rows
others-stay k [] up = refl
others-stay k (e ∷ es) up =
    let parts = and_parts (int_lt (order_number k) (order_number e.0)) (rises (order_number e.0) (numbers_of es)) up in
    elim (ties k e.0) as (λ b. ties k e.0 ≡ b → cond (not b) (e ∷ filter (λ e. not (ties k e.0)) es) (filter (λ e. not (ties k e.0)) es) ≡ e ∷ es) [
      | true ↦ λ is. absurd (less-irrefl (order_number k)
          (subst (λ x. int_lt (order_number k) (order_number x) ≡ true) (sym (tied k e.0 is)) parts.0))
      | false ↦ λ _. ap (λ l. e ∷ l)
          (others-stay k es (rises-lower (order_number k) (order_number e.0) (numbers_of es) parts.0 parts.1))
    ] refl

rows-rise : (p : ℤ × ℤ) (before : ℤ) (rows : Rows) → are_rows_behind (prefix_at table.open_orders (p.0 ∷ p.1 ∷ [])) 0 (Some before) rows ≡ true
    → rises before (numbers_of rows) ≡ true
rows-rise p before [] right = refl
rows-rise p before (e ∷ es) right =
    let q = prefix_at table.open_orders (p.0 ∷ p.1 ∷ []) in
    let parts = and_parts (is_row_under q 0 e.0 e.1 && is_behind (Some before) (last_of q e.0)) (are_rows_behind q 0 (Some (last_of q e.0)) es) right in
    let one = and_parts (is_row_under q 0 e.0 e.1) (int_lt before (order_number e.0)) parts.0 in
    λ i. one.1 i && rows-rise p (order_number e.0) es parts.1 i

-- what is there without a row was there before
pub still-there : (db : Database) (k q : Key) (row : Cells) → fin.get (fin.remove db k) q ≡ Some row → fin.get db q ≡ Some row
still-there db k q row found = at (ties q k) (sym (fin.get-remove key_cmp_total db k q) ∙ found)
  where
    at : (b : Bool) → cond b None (fin.get db q) ≡ Some row → fin.get db q ≡ Some row
    at true e = let no : ⊥ = cc in absurd no
    at false e = e

pub closed-consistent : (db : Database) (k : Key) → IsConsistent table.tables db → IsConsistent table.tables (fin.remove db k)
closed-consistent db k consistent q row found = consistent q row (still-there db k q row found)

-- the first one of a district's open orders is removed
pub closed-facts : (at : District) (db : Database) (order : Key × Cells) (orders : Rows) → IsConsistent table.tables db
    → scan db (prefix_at table.open_orders (at.w ∷ at.d ∷ [])) ≡ order ∷ orders
    → are_rows (prefix_at table.open_orders (at.w ∷ at.d ∷ [])) 0 (order ∷ orders) ≡ true
    → IsClosed at (order_number order.0) (numbers_of orders) (facts_of db)
    (facts_of (fin.remove db (key_at table.open_orders (at.w ∷ at.d ∷ order_number order.0 ∷ []))))
closed-facts at db order orders consistent found right =
    let p = prefix_at table.open_orders (at.w ∷ at.d ∷ []) in
    let o = order_number order.0 in
    let k = key_at table.open_orders (at.w ∷ at.d ∷ o ∷ []) in
    let es = fin.entries db in
    let parts = and_parts (is_row_under p 0 order.0 order.1 && true) (are_rows_behind p 0 (Some (last_of p order.0)) orders) right in
    let here : k ≡ order.0 = key-is at.w at.d order.0 order.1 (and_parts (is_row_under p 0 order.0 order.1) true parts.0).0 in
    let up : rises o (numbers_of orders) ≡ true = rows-rise (at.w, at.d) o orders parts.1 in
    let left : scan (fin.remove db k) p ≡ orders =
    entries-kept (fin.remove db k) (is_under p)
    ∙ ap (filter (λ e. is_under p e.0)) (ap fin.entries (removed-kept db k) ∙ entries-kept db (λ x. not (ties k x)))
    ∙ filter-swap (λ e. is_under p e.0) (λ e. not (ties k e.0)) es
    ∙ ap (filter (λ e. not (ties k e.0))) (sym (entries-kept db (is_under p)) ∙ found)
    ∙ ap (λ b. cond (not b) (order ∷ filter (λ e. not (ties k e.0)) orders) (filter (λ e. not (ties k e.0)) orders))
    (subst (λ x. ties k x ≡ true) here (ties-self k))
    ∙ others-stay k orders up in
    record {
      warehouses = ap (filter_map warehouse_row) (facts-left db k) ∙ unmoved warehouse_row k es (λ row. refl);
      districts = ap (filter_map district_row) (facts-left db k) ∙ unmoved district_row k es (λ row. refl);
      paid = λ w. ap total (ap (filter_map (paid_within w)) (facts-left db k) ∙ unmoved (paid_within w) k es (λ row. refl));
      orders = λ q. ap (filter_map (order_of q)) (facts-left db k) ∙ unmoved (order_of q) k es (λ row. refl);
      due = λ q. ap (filter_map (due_of q)) (facts-left db k) ∙ unmoved (due_of q) k es (λ row. refl);
      lines = λ q. ap (filter_map (line_of q)) (facts-left db k) ∙ unmoved (line_of q) k es (λ row. refl);
      others = λ q other. ap (filter_map (open_of q)) (facts-left db k)
          ∙ unmoved (open_of q) k es (λ row. ap (λ b. if b then Some o else None) other);
      before = opens-scanned at db consistent ∙ ap numbers_of found;
      after = opens-scanned at (fin.remove db k) (closed-consistent db k consistent) ∙ ap numbers_of left;
      rising = up;
    }
