-- The routines leave sound rows.
use Rattle.std.proofs.Common.{◌≡◌, refl, sym, ap, subst, ◌∙◌, ℕ, zero, suc, ◌+◌, ℤ, pos, ◌+ℤ◌, Bool, true, false, cond, ◌&&◌, eqb, if◌then◌else◌}
use Rattle.std.proofs.Common.{List, [], ◌∷◌, Option, Some, None, true≢false}
use Rattle.std.specs.FinMap as fin
use Rattle.std.specs.List.{AllByRecursion}
use Rattle.std.proofs.lemmas.Bool.{and_parts, eqb-true, eq-eqb}
use Rattle.aria_base.proofs.Orders.{key_cmp_total, key_cmp-IsAntisymmetric}
use Rattle.aria_base.specs.Orders.{Cells, Database}
use Rattle.aria_base.specs.Schemas.{Fits, IsConsistent}
use Rattle.aria_base.specs.declared.keys.Key.{Key}
use Rattle.cat_builtin.specs.Warehouses as table
use Rattle.proc_lang.specs.declared.ends.Trap.TheVariants.{Absent}
use Rattle.range_rules.specs.Courses.{run_routine, routine_left}
use Rattle.range_rules.specs.Scans.{begins, is_under, scan}
use Rattle.range_rules.specs.Walks.{Walk, follow}
use Rattle.range_rules.specs.declared.routines.RoutineCall.{RoutineCall}
use Rattle.tpcc_audit.specs.declared.facts.District.{District}
use Rattle.tpcc_audit.specs.Facts.{part_at, fact_of, facts_of, district_at}
use Rattle.tpcc_audit.specs.declared.facts.Fact.TheVariants as fact
use Rattle.tpcc_audit.specs.Conditions.{finding}
use Rattle.tpcc_load.specs.declared.districts.TheConstants.{DISTRICTS_EACH}
use Rattle.tpcc_routines.specs.declared.calls.Delivery.{Delivery}
use Rattle.tpcc_routines.specs.Answers.{key_at, prefix_at, are_numbers, is_customer, is_row_under, is_behind, last_of}
use Rattle.tpcc_routines.specs.Answers.{are_rows, are_rows_behind}
use Rattle.tpcc_routines.specs.Routines.{traps, in_range, on_number, within, on_row, need, find_all, with_number, order_number}
use Rattle.tpcc_routines.specs.Routines.{each_dated, with_balance}
use Rattle.tpcc_routines.specs.Routines.{credited, with_dates, dated, carried, with_carrier, closed, oldest, deliver, deliveries, delivery}
use Rattle.tpcc_routines.specs.Routines.{walk_of, status_by}
use Rattle.tpcc_routines.specs.Routines.{delivery_by, level_by, c_balance, o_c_id, ol_amount}
use Rattle.tpcc_routines.specs.Sound.{IsSound, district_of}
use Rattle.tpcc_sound.proofs.Audits.{closed-holds}
use Rattle.tpcc_sound.proofs.Closing.{facts-stay, line-fact, column-stays, still-there, closed-consistent, closed-facts, numbers_of}
use Rattle.tpcc_sound.proofs.Ending.{Ends, run_keeps, quiet_ends}
use Rattle.tpcc_sound.proofs.Entries.{Rows, ties, tied, each-entry}
use Rattle.tpcc_routines.proofs.Fitting.{set_fits, balance_fits, line_fits, status_by-fits, level_by-fits, by_kind}

-- the rows fit the tables of order entry, and are sound
record IsGood (db : Database) : Type 0 where
  consistent : IsConsistent table.tables db
  sound : IsSound db

-- ---- a row changes, and tells what it told

other-table : (k : Key) (numbers : List ℤ) → eqb k.table 1 ≡ false → ties (key_at table.districts numbers) k ≡ false
other-table k numbers other = elim (ties (key_at table.districts numbers) k) as (λ b. ties (key_at table.districts numbers) k ≡ b → b ≡ false) [
  | true ↦ λ is. absurd (true≢false (sym (eq-eqb k.table 1 (sym (ap (λ k. k.table) (tied (key_at table.districts numbers) k is)))) ∙ other))
  | false ↦ λ _. refl
] refl

-- a row that is there has one in its place before
before-change : (db : Database) (k q : Key) (v old row : Cells) → fin.get db k ≡ Some old → fin.get (fin.insert db k v) q ≡ Some row
    → (was : Cells) × (fin.get db q ≡ Some was)
before-change db k q v old row there found = at (ties q k) refl
  where
    at : (b : Bool) → ties q k ≡ b → (was : Cells) × (fin.get db q ≡ Some was)
    at true is = (old, ap (fin.get db) (tied q k is) ∙ there)
    at false other = (row, sym (ap (λ b. cond b (Some v) (fin.get db q)) other) ∙ sym (fin.get-insert key_cmp_total db k v q) ∙ found)

changed-good : (db : Database) (k : Key) (v old : Cells) → IsGood db → fin.get db k ≡ Some old → fact_of (k, v) ≡ fact_of (k, old)
    → Fits table.tables k v → eqb k.table 1 ≡ false → IsGood (fin.insert db k v)
changed-good db k v old good there alike fits other = record {
  consistent = λ q row found. fits-at q row (ties q k) refl (sym (fin.get-insert key_cmp_total db k v q) ∙ found);
  sound = record {
    audit = ap finding (facts-stay db k v old there alike) ∙ good.sound.audit;
    lines = λ q line district of found row.
        let was = before-change db k q v old line there found in
        good.sound.lines q was.0 district of was.1
        (sym (ap (λ b. cond b (Some v) (district_of db q)) (other-table k (part_at q.parts 0 ∷ part_at q.parts 1 ∷ []) other))
        ∙ sym (fin.get-insert key_cmp_total db k v (key_at table.districts (part_at q.parts 0 ∷ part_at q.parts 1 ∷ []))) ∙ row);
  };
}
  where
    fits-at : (q : Key) (row : Cells) (b : Bool) → ties q k ≡ b → cond (ties q k) (Some v) (fin.get db q) ≡ Some row → Fits table.tables q row
    fits-at q row true is found = subst (λ x. Fits table.tables x row) (sym (tied q k is))
        (subst (Fits table.tables k) (some-is v row (sym (ap (λ b. cond b (Some v) (fin.get db q)) is) ∙ found)) fits)
      where
        or_this : Cells → Option Cells → Cells
        or_this x None = x
        or_this x (Some y) = y

        some-is : (x y : Cells) → Some x ≡ Some y → x ≡ y
        some-is x y e = ap (or_this x) e
    fits-at q row false other found = good.consistent q row (sym (ap (λ b. cond b (Some v) (fin.get db q)) other) ∙ found)

-- ---- an order is open no longer

closed-good : (at : District) (db : Database) (order : Key × Cells) (orders : Rows) → IsGood db
    → scan db (prefix_at table.open_orders (at.w ∷ at.d ∷ [])) ≡ order ∷ orders
    → are_rows (prefix_at table.open_orders (at.w ∷ at.d ∷ [])) 0 (order ∷ orders) ≡ true
    → IsGood (fin.remove db (key_at table.open_orders (at.w ∷ at.d ∷ order_number order.0 ∷ [])))
closed-good at db order orders good found right =
    let k = key_at table.open_orders (at.w ∷ at.d ∷ order_number order.0 ∷ []) in
    record {
      consistent = closed-consistent db k good.consistent;
      sound = record {
        audit = closed-holds at (order_number order.0) (numbers_of orders) (facts_of db) (facts_of (fin.remove db k))
            (closed-facts at db order orders good.consistent found right) good.sound.audit;
        lines = λ q line district of there row. good.sound.lines q line district of (still-there db k q line there)
            (still-there db k (key_at table.districts (part_at q.parts 0 ∷ part_at q.parts 1 ∷ [])) district row);
      };
    }

-- ---- steps

module _ (P : Database → Type 0) where
  traps-end : (db : Database) → Ends P (traps Absent) db
  traps-end db = λ done. absurd (true≢false (sym done))

  if-ends : (b : Bool) (w : Walk) (db : Database) → (b ≡ true → Ends P w db) → Ends P (if b then w else traps Absent) db
  if-ends true w db ends = ends refl
  if-ends false w db ends = traps-end db

  within-ends : (n : ℤ) (next : ℤ → Walk) (db : Database) → ((n : ℤ) → Ends P (next n) db) → Ends P (within n next) db
  within-ends n next db ends = at (in_range n)
    where
      at : (o : Option ℤ) → Ends P (on_number next o) db
      at (Some n) = ends n
      at None = λ done. absurd (true≢false (sym done))

  need-ends : (t : ℕ) (numbers : List ℤ) (is_right : Cells → Bool) (next : Cells → Walk) (db : Database)
      → ((row : Cells) → fin.get db (key_at t numbers) ≡ Some row → is_right row ≡ true → Ends P (next row) db)
      → Ends P (need t numbers is_right next) db
  need-ends t numbers is_right next db ends = at (fin.get db (key_at t numbers)) refl
    where
      at : (o : Option Cells) → fin.get db (key_at t numbers) ≡ o → Ends P (on_row is_right next o) db
      at None none = traps-end db
      at (Some row) found = if-ends (is_right row) (next row) db (ends row found)

  find-ends : (t : ℕ) (numbers : List ℤ) (columns : ℕ) (next : Rows → Walk) (db : Database)
      → (are_rows (prefix_at t numbers) columns (scan db (prefix_at t numbers)) ≡ true → Ends P (next (scan db (prefix_at t numbers))) db)
      → Ends P (find_all t numbers columns next) db
  find-ends t numbers columns next db ends =
      if-ends (are_rows (prefix_at t numbers) columns (scan db (prefix_at t numbers))) (next (scan db (prefix_at t numbers))) db ends

-- ---- Delivery

abbrev IsThere : Database → Key → Type 0
IsThere db k = (row : Cells) × (fin.get db k ≡ Some row)

-- what was there is there
there-still : (db : Database) (k q : Key) (v : Cells) → IsThere db q → IsThere (fin.insert db k v) q
there-still db k q v was = at (ties q k) refl
  where
    at : (b : Bool) → ties q k ≡ b → IsThere (fin.insert db k v) q
    at true is = (v, fin.get-insert key_cmp_total db k v q ∙ ap (λ b. cond b (Some v) (fin.get db q)) is)
    at false other = (was.0, fin.get-insert key_cmp_total db k v q ∙ ap (λ b. cond b (Some v) (fin.get db q)) other ∙ was.1)

all-still : (db : Database) (k : Key) (v : Cells) (rows : Rows) → AllByRecursion (λ e. IsThere db e.0) rows
    → AllByRecursion (λ e. IsThere (fin.insert db k v) e.0) rows
all-still db k v [] all = tt
all-still db k v (e ∷ es) all = (there-still db k e.0 v all.0, all-still db k v es all.1)

-- what a scan finds is there
scanned-there : (db : Database) (t : ℕ) (numbers : List ℤ) → AllByRecursion (λ e. IsThere db e.0) (scan db (prefix_at t numbers))
scanned-there db t numbers =
    let p = prefix_at t numbers in
    each-entry (λ k row. IsThere db k) (fin.retain_keys db (is_under p)) (λ q row found. (
      row,
      at q row (is_under p q)
          (sym (fin.get-retain_keys db (is_under p) q (λ x e. ap (is_under p) (sym (key_cmp-IsAntisymmetric q x e)))) ∙ found),
    ))
  where
    at : (q : Key) (row : Cells) (b : Bool) → cond b (fin.get db q) None ≡ Some row → fin.get db q ≡ Some row
    at q row true e = e
    at q row false e = let no : ⊥ = cc in absurd no

line-table : (w d o : ℤ) (k : Key) (row : Cells) → is_row_under (prefix_at table.order_lines (w ∷ d ∷ o ∷ [])) 5 k row ≡ true → 6 ≡ k.table
line-table w d o k row right =
    let p = prefix_at table.order_lines (w ∷ d ∷ o ∷ []) in
    let first = and_parts (is_under p k) _ right in
    eqb-true 6 k.table (and_parts (eqb 6 k.table) (begins p.parts k.parts) first.0).0

each_dated-ends : (w d o date sum : ℤ) (before : Option ℤ) (rows : Rows) (next : ℤ → Walk)
    → are_rows_behind (prefix_at table.order_lines (w ∷ d ∷ o ∷ [])) 5 before rows ≡ true
    → ((n : ℤ) (db : Database) → IsGood db → Ends IsGood (next n) db) → (db : Database) → IsGood db
    → AllByRecursion (λ e. IsThere db e.0) rows → Ends IsGood (each_dated date sum rows next) db
unfolding each_dated
each_dated-ends w d o date sum before [] next right ends db good there = ends sum db good
each_dated-ends w d o date sum before (line ∷ lines) next right ends db good there =
    let p = prefix_at table.order_lines (w ∷ d ∷ o ∷ []) in
    let parts = and_parts (is_row_under p 5 line.0 line.1 && is_behind before (last_of p line.0))
    (are_rows_behind p 5 (Some (last_of p line.0)) lines) right in
    let one = (and_parts (is_row_under p 5 line.0 line.1) (is_behind before (last_of p line.0)) parts.0).0 in
    let v = with_number 2 date line.1 in
    let of = line-table w d o line.0 line.1 one in
    let next_db = fin.insert db line.0 v in
    let still = changed-good db line.0 v there.0.0 good there.0.1 (line-fact line.0 v there.0.0 (sym of)) (line_fits w d o date line.0 line.1 one)
    (ap (λ t. eqb t 1) (sym of)) in
    within-ends IsGood (sum +ℤ ol_amount line.1) (λ sum. each_dated date sum lines next) next_db
    (λ sum. each_dated-ends w d o date sum (Some (last_of p line.0)) lines next parts.1 ends next_db still
    (all-still db line.0 v lines there.1))

with_balance-ends : (at : District) (o c : ℤ) (customer : Cells) (balance : ℤ) (next : ℤ → Walk) → is_customer customer ≡ true
    → ((n : ℤ) (db : Database) → IsGood db → Ends IsGood (next n) db) → (db : Database) → IsGood db
    → fin.get db (key_at table.customers (at.w ∷ at.d ∷ c ∷ [])) ≡ Some customer → Ends IsGood (with_balance at o c customer balance next) db
unfolding with_balance
with_balance-ends at o c customer balance next right ends db good there =
    let k = key_at table.customers (at.w ∷ at.d ∷ c ∷ []) in
    ends o (fin.insert db k (with_number 4 balance customer))
    (changed-good db k (with_number 4 balance customer) customer good there refl (refl, balance_fits customer balance right) refl)

credited-ends : (at : District) (o c amount : ℤ) (next : ℤ → Walk) → ((n : ℤ) (db : Database) → IsGood db → Ends IsGood (next n) db)
    → (db : Database) → IsGood db → Ends IsGood (credited at o c amount next) db
unfolding credited
credited-ends at o c amount next ends db good =
    need-ends IsGood table.customers (at.w ∷ at.d ∷ c ∷ []) is_customer _ db (λ customer there right.
    within-ends IsGood (c_balance customer +ℤ amount) (λ balance. with_balance at o c customer balance next) db
    (λ balance. with_balance-ends at o c customer balance next right ends db good there))

dated-ends : (what : Delivery) (at : District) (o c : ℤ) (next : ℤ → Walk) → ((n : ℤ) (db : Database) → IsGood db → Ends IsGood (next n) db)
    → (db : Database) → IsGood db → Ends IsGood (dated what at o c next) db
unfolding dated with_dates
dated-ends what at o c next ends db good = find-ends IsGood table.order_lines (at.w ∷ at.d ∷ o ∷ []) 5 (λ lines. with_dates what at o c lines next) db (λ right.
    each_dated-ends at.w at.d o what.date (pos 0) None (scan db (prefix_at table.order_lines (at.w ∷ at.d ∷ o ∷ [])))
    (λ amount. credited at o c amount next) right (λ amount. credited-ends at o c amount next ends) db good
    (scanned-there db table.order_lines (at.w ∷ at.d ∷ o ∷ [])))

with_carrier-ends : (what : Delivery) (at : District) (o : ℤ) (next : ℤ → Walk) → ((n : ℤ) (db : Database) → IsGood db → Ends IsGood (next n) db)
    → (db : Database) → IsGood db → Ends IsGood (with_carrier what at o next) db
unfolding with_carrier carried
with_carrier-ends what at o next ends db good =
    let k = key_at table.orders (at.w ∷ at.d ∷ o ∷ []) in
    need-ends IsGood table.orders (at.w ∷ at.d ∷ o ∷ []) (are_numbers 5) _ db (λ order there right.
    let v = with_number 2 what.carrier order in
    dated-ends what at o (o_c_id order) next ends (fin.insert db k v)
    (changed-good db k v order good there (ap (fact.Order (district_at k.parts) (part_at k.parts 2)) (column-stays order what.carrier))
    (refl, set_fits 5 2 order what.carrier right) refl))

deliver-ends : (what : Delivery) (at : District) (next : ℤ → Walk) → ((n : ℤ) (db : Database) → IsGood db → Ends IsGood (next n) db)
    → (db : Database) → IsGood db → Ends IsGood (deliver what at next) db
unfolding deliver closed
deliver-ends what at next ends db good =
    find-ends IsGood table.open_orders (at.w ∷ at.d ∷ []) 0 (oldest what at next) db
    (λ right. oldest-ends (scan db (prefix_at table.open_orders (at.w ∷ at.d ∷ []))) refl right)
  where
    oldest-ends : (rows : Rows) → scan db (prefix_at table.open_orders (at.w ∷ at.d ∷ [])) ≡ rows
        → are_rows (prefix_at table.open_orders (at.w ∷ at.d ∷ [])) 0 rows ≡ true → Ends IsGood (oldest what at next rows) db
    oldest-ends [] found right = ends (pos 0) db good
    oldest-ends (order ∷ orders) found right = with_carrier-ends what at (order_number order.0) next ends
        (fin.remove db (key_at table.open_orders (at.w ∷ at.d ∷ order_number order.0 ∷ []))) (closed-good at db order orders good found right)

deliveries-ends : (what : Delivery) (n d : ℕ) (given : Cells) (db : Database) → IsGood db → Ends IsGood (deliveries what n d given) db
unfolding deliveries
deliveries-ends what zero d given db good = λ done. good
deliveries-ends what (suc n) d given db good = deliver-ends what _ _ (λ o db good. deliveries-ends what n (d + 1) _ db good) db good

delivery_by-ends : (nums : List ℤ) (db : Database) → IsGood db → Ends IsGood (delivery_by nums) db
unfolding delivery
delivery_by-ends (w ∷ carrier ∷ date ∷ []) db good = deliveries-ends (record { w = w; carrier = carrier; date = date }) DISTRICTS_EACH 0 [] db good
delivery_by-ends _ db good = traps-end IsGood db

-- ---- all three

pub more-keep : (call : RoutineCall) (db : Database) → IsConsistent table.tables db → IsSound db
    → IsSound (routine_left (run_routine (follow (walk_of call)) db) db)
more-keep call db consistent sound =
    let good : IsGood db = record { consistent = consistent; sound = sound } in
    let ends : Ends IsGood (walk_of call) db = by_kind (λ w. Ends IsGood w db) call
    (quiet_ends IsGood (status_by call.nums) db (status_by-fits call.nums) good)
    (delivery_by-ends call.nums db good) (quiet_ends IsGood (level_by call.nums) db (level_by-fits call.nums) good) (traps-end IsGood db) in
    (run_keeps IsGood (walk_of call) db good ends).sound
