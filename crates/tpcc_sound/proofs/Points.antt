-- Whether rows are sound, row by row.
use Rattle.std.proofs.Common.{◌≡◌, refl, sym, ap, subst, ◌∙◌, ℕ, Bool, true, false, cond, true≢false, eqb, if◌then◌else◌}
use Rattle.std.proofs.Common.{List, [], ◌∷◌, ◌++◌, map, Option, Some, None, is_none}
use Rattle.std.specs.List.{filter_map, cons_option, AllByRecursion}
use Rattle.std.specs.FinMap as fin
use Rattle.std.specs.FinMap.Entries as list
use Rattle.std.proofs.lemmas.Bool.{eqb-true}
use Rattle.aria_base.specs.Orders.{key_cmp, Cells, Database}
use Rattle.aria_base.specs.declared.keys.Key.{Key}
use Rattle.aria_base.specs.declared.keys.Part.{Part}
use Rattle.cat_builtin.specs.Warehouses as table
use Rattle.tpcc_audit.specs.declared.conditions.Condition.{Condition}
use Rattle.tpcc_audit.specs.declared.conditions.Condition.TheVariants as condition
use Rattle.tpcc_audit.specs.declared.facts.District.{District}
use Rattle.tpcc_audit.specs.declared.facts.DistrictRow.{DistrictRow}
use Rattle.tpcc_audit.specs.declared.facts.WarehouseRow.{WarehouseRow}
use Rattle.tpcc_audit.specs.declared.facts.Fact.{Fact}
use Rattle.tpcc_audit.specs.declared.facts.Fact.TheVariants as fact
use Rattle.tpcc_audit.specs.declared.findings.Audit.{Audit}
use Rattle.tpcc_audit.specs.declared.findings.Audit.TheVariants.{Holds}
use Rattle.tpcc_audit.specs.Books.{warehouse_row, district_row, paid_to, tally_of}
use Rattle.tpcc_audit.specs.Conditions.{amount, at_district, at_districts, at_warehouses}
use Rattle.tpcc_audit.specs.Facts.{part_at, column_at, district_at, fact_of, facts_of}
use Rattle.tpcc_routines.specs.Sound.{AreNumbered, IsSound}
use Rattle.tpcc_sound.proofs.Audits.{AllHold, all-hold, first-holds, parted, joined}
use Rattle.tpcc_sound.proofs.Entries.{Rows, ties, tied, each-entry}

same-Some : {X : Type 0} (x y : X) → Some x ≡ Some y → x ≡ y
same-Some {X} x y e = ap (or_that x) e
  where
    or_that : X → Option X → X
    or_that x (Some y) = y
    or_that x None = x

-- ---- what holds of each of the rows that tell something

module _ {R : Type 0} (told : Fact → Option R) (finding : R → Audit) where
  head-holds : (rs : List R) (r : R) (o : Option R) → AllHold (map finding (cons_option o rs)) → o ≡ Some r → finding r ≡ Holds
  head-holds rs r None all none = absurd (true≢false (ap is_none none))
  head-holds rs r (Some s) all some = subst (λ r. finding r ≡ Holds) (same-Some s r some) all.0

  rest-hold : (rs : List R) (o : Option R) → AllHold (map finding (cons_option o rs)) → AllHold (map finding rs)
  rest-hold rs None all = all
  rest-hold rs (Some s) all = all.1

  holds-at : (es : Rows) → AllHold (map finding (filter_map told (map fact_of es))) → (k : Key) (row : Cells) (r : R)
      → list.find key_cmp k es ≡ Some row → told (fact_of (k, row)) ≡ Some r → finding r ≡ Holds
  holds-at [] all k row r found is = absurd (true≢false (ap is_none found))
  holds-at (e ∷ es) all k row r found is =
      elim (ties k e.0) as (λ b. ties k e.0 ≡ b → cond b (Some e.1) (list.find key_cmp k es) ≡ Some row → finding r ≡ Holds) [
        | true ↦ λ same some. head-holds (filter_map told (map fact_of es)) r (told (fact_of e)) all
            ((λ i. told (fact_of (sym (tied k e.0 same) i, same-Some e.1 row some i))) ∙ is)
        | false ↦ λ other there. holds-at es (rest-hold (filter_map told (map fact_of es)) (told (fact_of e)) all) k row r there is
      ] refl found

  all-found : (es : Rows) → AllByRecursion (λ e. (r : R) → told (fact_of e) ≡ Some r → finding r ≡ Holds) es
      → AllHold (map finding (filter_map told (map fact_of es)))
  all-found [] all = tt
  all-found (e ∷ es) all =
      let rest = all-found es all.1 in
      elim (told (fact_of e)) as (λ o. told (fact_of e) ≡ o → AllHold (map finding (cons_option o (filter_map told (map fact_of es))))) [
        | None ↦ λ none. rest
        | Some r ↦ λ some. (all.0 r some, rest)
      ] refl

  -- and of each row of the database
  pub holds-of : (db : Database) → AllHold (map finding (filter_map told (facts_of db))) → (k : Key) (row : Cells) (r : R)
      → fin.get db k ≡ Some row → told (fact_of (k, row)) ≡ Some r → finding r ≡ Holds
  holds-of db all k row r found is = holds-at (fin.entries db) all k row r (sym (fin.get-entries db k) ∙ found) is

  pub all-of : (db : Database) → ((k : Key) (row : Cells) (r : R) → fin.get db k ≡ Some row → told (fact_of (k, row)) ≡ Some r → finding r ≡ Holds)
      → AllHold (map finding (filter_map told (facts_of db)))
  all-of db each = all-found (fin.entries db)
      (each-entry (λ k row. (r : R) → told (fact_of (k, row)) ≡ Some r → finding r ≡ Holds) db (λ k row found r is. each k row r found is))

-- ---- which rows tell of a warehouse, and which of a district

abbrev pub warehouse_of : Key → Cells → WarehouseRow
warehouse_of k row = record { w = part_at k.parts 0; ytd = column_at row 1 }

abbrev pub district_at_key : Key → Cells → DistrictRow
district_at_key k row = record { at = district_at k.parts; ytd = column_at row 1; next = column_at row 2 }

pub warehouse-told : (k : Key) (row : Cells) → k.table ≡ table.warehouses → warehouse_row (fact_of (k, row)) ≡ Some (warehouse_of k row)
warehouse-told k row is = ap (λ t. warehouse_row (fact_of (record { table = t; parts = k.parts }, row))) is

pub district-told : (k : Key) (row : Cells) → k.table ≡ table.districts → district_row (fact_of (k, row)) ≡ Some (district_at_key k row)
district-told k row is = ap (λ t. district_row (fact_of (record { table = t; parts = k.parts }, row))) is

-- by whether the key is one of the five tables
abbrev fact_by : Bool → Bool → Bool → Bool → Bool → List Part → Cells → Fact
fact_by a b c d e parts row =
    if a then fact.Warehouse (record { w = part_at parts 0; ytd = column_at row 1 })
    else if b then fact.District (record { at = district_at parts; ytd = column_at row 1; next = column_at row 2 })
    else if c then fact.Open (district_at parts) (part_at parts 2)
    else if d then fact.Order (district_at parts) (part_at parts 2) (column_at row 3)
    else if e then fact.Line (district_at parts)
    else fact.Other

warehouse-by : (a b c d e : Bool) (parts : List Part) (row : Cells) (r : WarehouseRow) → warehouse_row (fact_by a b c d e parts row) ≡ Some r
    → (a ≡ true) × (record { w = part_at parts 0; ytd = column_at row 1 } ≡ r)
warehouse-by true b c d e parts row r is = (refl, same-Some (record { w = part_at parts 0; ytd = column_at row 1 }) r is)
warehouse-by false true c d e parts row r is = absurd (true≢false (ap is_none is))
warehouse-by false false true d e parts row r is = absurd (true≢false (ap is_none is))
warehouse-by false false false true e parts row r is = absurd (true≢false (ap is_none is))
warehouse-by false false false false true parts row r is = absurd (true≢false (ap is_none is))
warehouse-by false false false false false parts row r is = absurd (true≢false (ap is_none is))

district-by : (a b c d e : Bool) (parts : List Part) (row : Cells) (r : DistrictRow) → district_row (fact_by a b c d e parts row) ≡ Some r
    → (b ≡ true) × (record { at = district_at parts; ytd = column_at row 1; next = column_at row 2 } ≡ r)
district-by true b c d e parts row r is = absurd (true≢false (ap is_none is))
district-by false true c d e parts row r is =
    (refl, same-Some (record { at = district_at parts; ytd = column_at row 1; next = column_at row 2 }) r is)
district-by false false true d e parts row r is = absurd (true≢false (ap is_none is))
district-by false false false true e parts row r is = absurd (true≢false (ap is_none is))
district-by false false false false true parts row r is = absurd (true≢false (ap is_none is))
district-by false false false false false parts row r is = absurd (true≢false (ap is_none is))

warehouse-only : (k : Key) (row : Cells) (r : WarehouseRow) → warehouse_row (fact_of (k, row)) ≡ Some r
    → (k.table ≡ table.warehouses) × (warehouse_of k row ≡ r)
warehouse-only k row r is =
    let by = warehouse-by (eqb k.table 0) (eqb k.table 1) (eqb k.table 4) (eqb k.table 5) (eqb k.table 6) k.parts row r is in
    (eqb-true k.table 0 by.0, by.1)

district-only : (k : Key) (row : Cells) (r : DistrictRow) → district_row (fact_of (k, row)) ≡ Some r
    → (k.table ≡ table.districts) × (district_at_key k row ≡ r)
district-only k row r is =
    let by = district-by (eqb k.table 0) (eqb k.table 1) (eqb k.table 4) (eqb k.table 5) (eqb k.table 6) k.parts row r is in
    (eqb-true k.table 1 by.0, by.1)

-- ---- the whole

pub record HoldsOf (db : Database) : Type 0 where
  pub amounts : (k : Key) (row : Cells) → k.table ≡ table.warehouses → fin.get db k ≡ Some row
      → amount (warehouse_of k row) (paid_to (part_at k.parts 0) (facts_of db)) ≡ Holds
  pub districts : (c : Condition) (k : Key) (row : Cells) → k.table ≡ table.districts → fin.get db k ≡ Some row
      → at_district c (district_at_key k row) (tally_of (district_at k.parts) (facts_of db)) ≡ Holds
  pub lines : AreNumbered db

module _ (db : Database) where
  abbrev warehouse_finding : WarehouseRow → Audit
  warehouse_finding row = amount row (paid_to row.w (facts_of db))

  abbrev district_finding : Condition → DistrictRow → Audit
  district_finding c row = at_district c row (tally_of row.at (facts_of db))

  pub holds-each : IsSound db → HoldsOf db
  holds-each sound =
      let told = facts_of db in
      let ws = at_warehouses told in
      let ns = at_districts condition.Numbers told in
      let gs = at_districts condition.Gaps told in
      let ls = at_districts condition.Lines told in
      let l = parted (ws ++ ns ++ gs) ls (all-hold (ws ++ ns ++ gs ++ ls) sound.audit) in
      let g = parted (ws ++ ns) gs l.0 in
      let n = parted ws ns g.0 in
      record {
        amounts = λ k row of found. holds-of warehouse_row warehouse_finding db n.0 k row (warehouse_of k row) found (warehouse-told k row of);
        districts = λ c k row of found. of_condition n.1 g.1 l.1 c k row of found;
        lines = sound.lines;
      }
    where
      of_condition : AllHold (at_districts condition.Numbers (facts_of db)) → AllHold (at_districts condition.Gaps (facts_of db))
          → AllHold (at_districts condition.Lines (facts_of db)) → (c : Condition) (k : Key) (row : Cells) → k.table ≡ table.districts
          → fin.get db k ≡ Some row → at_district c (district_at_key k row) (tally_of (district_at k.parts) (facts_of db)) ≡ Holds
      of_condition n g l condition.Numbers k row of found =
          holds-of district_row (district_finding condition.Numbers) db n k row (district_at_key k row) found (district-told k row of)
      of_condition n g l condition.Gaps k row of found =
          holds-of district_row (district_finding condition.Gaps) db g k row (district_at_key k row) found (district-told k row of)
      of_condition n g l condition.Lines k row of found =
          holds-of district_row (district_finding condition.Lines) db l k row (district_at_key k row) found (district-told k row of)

  all-districts : HoldsOf db → (c : Condition) → AllHold (at_districts c (facts_of db))
  all-districts each c = all-of district_row (district_finding c) db (λ k row r found is.
      let only = district-only k row r is in
      subst (λ r. district_finding c r ≡ Holds) only.1 (each.districts c k row only.0 found))

  pub sound-each : HoldsOf db → IsSound db
  sound-each each =
      let told = facts_of db in
      let ws = at_warehouses told in
      let ns = at_districts condition.Numbers told in
      let gs = at_districts condition.Gaps told in
      let ls = at_districts condition.Lines told in
      let w : AllHold ws = all-of warehouse_row warehouse_finding db (λ k row r found is.
      let only = warehouse-only k row r is in
      subst (λ r. warehouse_finding r ≡ Holds) only.1 (each.amounts k row only.0 found)) in
      record {
        audit = first-holds (ws ++ ns ++ gs ++ ls) (joined (ws ++ ns ++ gs) ls (joined (ws ++ ns) gs (joined ws ns w (all-districts each condition.Numbers))
            (all-districts each condition.Gaps)) (all-districts each condition.Lines));
        lines = each.lines;
      }
