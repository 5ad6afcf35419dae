-- Whatever is answered, what the routines ask for fits the tables of order entry.
use Rattle.std.proofs.Common.{◌≡◌, refl, ap, subst, ◌∙◌, ℕ, zero, suc, ◌+◌, ◌-ℤ◌, ◌+ℤ◌, ℤ, pos, Bool, true, false, ◌&&◌, eqb, List}
use Rattle.std.proofs.Common.{[], ◌∷◌, ◌++◌, map, length}
use Rattle.std.proofs.Common.{Option, Some, None, if◌then◌else◌, replicate, lit<, int_eq}
use Rattle.std.specs.Prelude.{int_lt, slice_set, slice_get, IsSomeAnd}
use Rattle.aria_base.specs.declared.values.Value.TheVariants as value
use Rattle.proc_lang.specs.Values.{quotient}
use Rattle.std.specs.List.{list_all}
use Rattle.std.proofs.lemmas.Bool.{and_parts, eqb-true}
use Rattle.aria_base.specs.Kinds.{part_kind, value_kind}
use Rattle.aria_base.specs.Orders.{Cells}
use Rattle.aria_base.specs.declared.keys.Key.{Key}
use Rattle.aria_base.specs.declared.values.Kind.TheVariants as kind
use Rattle.cat_builtin.specs.Warehouses as table
use Rattle.proc_lang.specs.declared.ends.Trap.TheVariants.{Absent}
use Rattle.range_rules.specs.Scans.{begins}
use Rattle.range_rules.specs.Walks.{Walk, Stops, Reads, Writes, Scans, follow}
use Rattle.range_rules.specs.declared.routines.RoutineCall.{RoutineCall}
use Rattle.range_rules.specs.declared.routines.Seen.{Seen}
use Rattle.range_rules.specs.declared.routines.Seen.TheVariants.{One, Wrote, Many}
use Rattle.range_suits.specs.Suits.{FitsKey, FitsWrite, FitsPrefix, FitsAction, Suits}
use Rattle.tpcc_load.specs.declared.districts.TheConstants.{DISTRICTS_EACH}
use Rattle.tpcc_audit.specs.Facts.{column_at}
use Rattle.tpcc_routines.specs.declared.calls.Delivery.{Delivery}
use Rattle.tpcc_audit.specs.declared.facts.District.{District}
use Rattle.tpcc_routines.specs.declared.calls.TheConstants.{ORDER_STATUS, DELIVERY, STOCK_LEVEL}
use Rattle.tpcc_routines.specs.declared.statuses.LastOrder.{LastOrder}
use Rattle.tpcc_routines.specs.Answers.{key_at, prefix_at, are_numbers, is_customer, is_number_part, is_row_under, is_behind, last_of}
use Rattle.tpcc_routines.specs.Answers.{are_rows, are_rows_behind}
use Rattle.tpcc_routines.specs.Routines.{traps, in_range, on_number, within, on_row, need, find_all, with_number, gives, last_order, with_lines}
use Rattle.tpcc_routines.specs.Routines.{with_order, with_last, orders_of}
use Rattle.tpcc_routines.specs.Routines.{status_of, at_place, namesake, order_status, each_dated, with_balance, credited, with_dates, dated}
use Rattle.tpcc_routines.specs.Routines.{carried, with_carrier, closed}
use Rattle.tpcc_routines.specs.Routines.{oldest, deliver, deliveries, delivery, with_items, counted, level_of, last_level, stock_level}
use Rattle.tpcc_routines.specs.Routines.{walk_of, status_by, delivery_by}
use Rattle.tpcc_routines.specs.Routines.{level_by, is_more, c_balance, o_c_id, ol_amount, order_number, s_quantity, d_next_o_id}
use Rattle.tpcc_routines.proofs.ColumnKinds.{numbers_kinds, parts_kinds, customer_kinds, with_number-kinds}

-- ---- walks

-- each of its actions fits, whatever is answered, and it writes only if it may
abbrev pub FitsWalk : Bool → Walk → Type 0
FitsWalk writes (Stops e) = Unit {0}
FitsWalk writes (Reads k next) = FitsKey table.tables k × ((row : Option Cells) → FitsWalk writes (next row))
FitsWalk writes (Writes k row next) = (writes ≡ true) × (FitsWrite table.tables k row × FitsWalk writes next)
FitsWalk writes (Scans p next) = FitsPrefix table.tables p × ((rows : List (Key × Cells)) → FitsWalk writes (next rows))

follow_fits : (writes : Bool) (w : Walk) (seen : List Seen) → FitsWalk writes w → FitsAction table.tables (follow w seen)
follow_fits writes (Stops e) seen fits = tt
follow_fits writes (Reads k next) [] fits = fits.0
follow_fits writes (Reads k next) (One row ∷ seen) fits = follow_fits writes (next row) seen (fits.1 row)
follow_fits writes (Reads k next) (Wrote ∷ seen) fits = tt
follow_fits writes (Reads k next) (Many rows ∷ seen) fits = tt
follow_fits writes (Writes k row next) [] fits = fits.1.0
follow_fits writes (Writes k row next) (One found ∷ seen) fits = tt
follow_fits writes (Writes k row next) (Wrote ∷ seen) fits = follow_fits writes next seen fits.1.1
follow_fits writes (Writes k row next) (Many rows ∷ seen) fits = tt
follow_fits writes (Scans p next) [] fits = fits.0
follow_fits writes (Scans p next) (One row ∷ seen) fits = tt
follow_fits writes (Scans p next) (Wrote ∷ seen) fits = tt
follow_fits writes (Scans p next) (Many rows ∷ seen) fits = follow_fits writes (next rows) seen (fits.1 rows)

-- ---- steps

module _ (writes : Bool) where
  if_fits : (b : Bool) (w : Walk) → (b ≡ true → FitsWalk writes w) → FitsWalk writes (if b then w else traps Absent)
  if_fits true w fits = fits refl
  if_fits false w fits = tt

  on_number_fits : (next : ℤ → Walk) (n : Option ℤ) → ((n : ℤ) → FitsWalk writes (next n)) → FitsWalk writes (on_number next n)
  on_number_fits next (Some n) fits = fits n
  on_number_fits next None fits = tt

  within_fits : (n : ℤ) (next : ℤ → Walk) → ((n : ℤ) → FitsWalk writes (next n)) → FitsWalk writes (within n next)
  within_fits n next fits = on_number_fits next (in_range n) fits

  on_row_fits : (is_right : Cells → Bool) (next : Cells → Walk) (row : Option Cells) → ((row : Cells) → is_right row ≡ true → FitsWalk writes (next row))
      → FitsWalk writes (on_row is_right next row)
  on_row_fits is_right next None fits = tt
  on_row_fits is_right next (Some row) fits = if_fits (is_right row) (next row) (fits row)

  need_fits : (t : ℕ) (numbers : List ℤ) (is_right : Cells → Bool) (next : Cells → Walk) → FitsKey table.tables (key_at t numbers)
      → ((row : Cells) → is_right row ≡ true → FitsWalk writes (next row)) → FitsWalk writes (need t numbers is_right next)
  need_fits t numbers is_right next key fits = (key, λ row. on_row_fits is_right next row fits)

  find_fits : (t : ℕ) (numbers : List ℤ) (columns : ℕ) (next : List (Key × Cells) → Walk) → FitsPrefix table.tables (prefix_at t numbers)
      → ((rows : List (Key × Cells)) → are_rows (prefix_at t numbers) columns rows ≡ true → FitsWalk writes (next rows))
      → FitsWalk writes (find_all t numbers columns next)
  find_fits t numbers columns next prefix fits = (prefix, λ rows. if_fits (are_rows (prefix_at t numbers) columns rows) (next rows) (fits rows))

-- ---- rows that are written

pub set_fits : (columns column : ℕ) (row : Cells) (n : ℤ) → are_numbers columns row ≡ true
    → map value_kind (with_number column n row) ≡ slice_set (replicate columns kind.Int) column kind.Int
set_fits columns column row n right = with_number-kinds row column n ∙ ap (λ kinds. slice_set kinds column kind.Int) (numbers_kinds columns row right)

pub balance_fits : (row : Cells) (n : ℤ) → is_customer row ≡ true
    → map value_kind (with_number 4 n row) ≡ slice_set (replicate 7 kind.Int ++ kind.Text ∷ []) 4 kind.Int
balance_fits row n right = with_number-kinds row 4 n ∙ ap (λ kinds. slice_set kinds 4 kind.Int) (customer_kinds row right)

-- a line that was found has the key of a line
pub line_fits : (w d o date : ℤ) (k : Key) (row : Cells) → is_row_under (prefix_at table.order_lines (w ∷ d ∷ o ∷ [])) 5 k row ≡ true
    → FitsWrite table.tables k (Some (with_number 2 date row))
line_fits w d o date k row right =
    let p = prefix_at table.order_lines (w ∷ d ∷ o ∷ []) in
    let first = and_parts (eqb 6 k.table && begins p.parts k.parts) (eqb (length k.parts) 4 && (list_all is_number_part k.parts && are_numbers 5 row)) right in
    let under = and_parts (eqb 6 k.table) (begins p.parts k.parts) first.0 in
    let second = and_parts (eqb (length k.parts) 4) (list_all is_number_part k.parts && are_numbers 5 row) first.1 in
    let third = and_parts (list_all is_number_part k.parts) (are_numbers 5 row) second.1 in
    subst (λ t. IsSomeAnd (slice_get table.tables t) (λ of. (map part_kind k.parts ≡ of.key) × (map value_kind (with_number 2 date row) ≡ of.cols)))
    (eqb-true 6 k.table under.0) (parts_kinds 4 k.parts second.0 third.0, set_fits 5 2 row date third.1)

-- ---- Order-Status

with_order-fits : (at : District) (c balance : ℤ) (order : LastOrder) → FitsWalk false (with_order at c balance order)
unfolding with_order
with_order-fits at c balance order =
    let given = value.Int c ∷ value.Int balance ∷ value.Int order.o ∷ value.Int order.entry ∷ value.Int order.carrier ∷ [] in
    find_fits false table.order_lines (at.w ∷ at.d ∷ order.o ∷ []) 5 (λ lines. gives (with_lines given lines)) (lit< tt, refl) (λ lines right. tt)

with_last-fits : (at : District) (c balance : ℤ) (order : Option LastOrder) → FitsWalk false (with_last at c balance order)
with_last-fits at c balance (Some order) = with_order-fits at c balance order
with_last-fits at c balance None = tt

orders_of-fits : (at : District) (c balance : ℤ) → FitsWalk false (orders_of at c balance)
unfolding orders_of
orders_of-fits at c balance =
    find_fits false table.orders (at.w ∷ at.d ∷ []) 5 (λ orders. with_last at c balance (last_order c None orders)) (lit< tt, refl)
    (λ orders right. with_last-fits at c balance (last_order c None orders))

status_of-fits : (at : District) (c : ℤ) → FitsWalk false (status_of at c)
unfolding status_of
status_of-fits at c = need_fits false table.customers (at.w ∷ at.d ∷ c ∷ []) is_customer (λ customer. orders_of at c (c_balance customer)) refl
    (λ customer right. orders_of-fits at c (c_balance customer))

at_place-fits : (at : District) (name place : ℤ) → FitsWalk false (at_place at name place)
unfolding at_place
at_place-fits at name place = need_fits false table.name_places (at.w ∷ at.d ∷ name ∷ place ∷ []) (are_numbers 1) (λ row. status_of at (column_at row 0))
    refl (λ row right. status_of-fits at (column_at row 0))

namesake-fits : (at : District) (name : ℤ) (row : Option Cells) → FitsWalk false (namesake at name row)
namesake-fits at name None = tt
namesake-fits at name (Some row) =
    let place : ℤ → Walk = λ n. at_place at name (quotient n (pos 2)) in
    let more = column_at row 0 +ℤ pos 1 in
    if_fits false (are_numbers 1 row) (within more place) (λ right. within_fits false more place (λ n. at_place-fits at name (quotient n (pos 2))))

order_status-fits : (at : District) (by id : ℤ) → FitsWalk false (order_status at by id)
unfolding order_status
order_status-fits at by id = at_kind (int_eq by (pos 0))
  where
    at_kind : (b : Bool) → FitsWalk false (if b then status_of at id else Reads (key_at table.name_counts (at.w ∷ at.d ∷ id ∷ [])) (namesake at id))
    at_kind true = status_of-fits at id
    at_kind false = (refl, namesake-fits at id)

-- ---- Delivery

each_dated-fits : (w d o date sum : ℤ) (before : Option ℤ) (lines : List (Key × Cells)) (next : ℤ → Walk)
    → are_rows_behind (prefix_at table.order_lines (w ∷ d ∷ o ∷ [])) 5 before lines ≡ true → ((n : ℤ) → FitsWalk true (next n))
    → FitsWalk true (each_dated date sum lines next)
unfolding each_dated
each_dated-fits w d o date sum before [] next right fits = fits sum
each_dated-fits w d o date sum before (line ∷ lines) next right fits =
    let p = prefix_at table.order_lines (w ∷ d ∷ o ∷ []) in
    let parts = and_parts (is_row_under p 5 line.0 line.1 && is_behind before (last_of p line.0))
    (are_rows_behind p 5 (Some (last_of p line.0)) lines) right in
    let one = and_parts (is_row_under p 5 line.0 line.1) (is_behind before (last_of p line.0)) parts.0 in (
      refl,
      (
        line_fits w d o date line.0 line.1 one.0,
        within_fits true (sum +ℤ ol_amount line.1) (λ sum. each_dated date sum lines next)
            (λ sum. each_dated-fits w d o date sum (Some (last_of p line.0)) lines next parts.1 fits),
      ),
    )

with_balance-fits : (at : District) (o c : ℤ) (customer : Cells) (balance : ℤ) (next : ℤ → Walk) → is_customer customer ≡ true
    → ((n : ℤ) → FitsWalk true (next n)) → FitsWalk true (with_balance at o c customer balance next)
unfolding with_balance
with_balance-fits at o c customer balance next right fits = (refl, ((refl, balance_fits customer balance right), fits o))

credited-fits : (at : District) (o c amount : ℤ) (next : ℤ → Walk) → ((n : ℤ) → FitsWalk true (next n)) → FitsWalk true (credited at o c amount next)
unfolding credited
credited-fits at o c amount next fits =
    need_fits true table.customers (at.w ∷ at.d ∷ c ∷ []) is_customer
    (λ customer. within (c_balance customer +ℤ amount) (λ balance. with_balance at o c customer balance next)) refl
    (λ customer right. within_fits true (c_balance customer +ℤ amount) (λ balance. with_balance at o c customer balance next)
    (λ balance. with_balance-fits at o c customer balance next right fits))

dated-fits : (what : Delivery) (at : District) (o c : ℤ) (next : ℤ → Walk) → ((n : ℤ) → FitsWalk true (next n)) → FitsWalk true (dated what at o c next)
unfolding dated with_dates
dated-fits what at o c next fits = find_fits true table.order_lines (at.w ∷ at.d ∷ o ∷ []) 5 (λ lines. with_dates what at o c lines next) (lit< tt, refl)
    (λ lines right. each_dated-fits at.w at.d o what.date (pos 0) None lines (λ amount. credited at o c amount next) right
    (λ amount. credited-fits at o c amount next fits))

with_carrier-fits : (what : Delivery) (at : District) (o : ℤ) (next : ℤ → Walk) → ((n : ℤ) → FitsWalk true (next n))
    → FitsWalk true (with_carrier what at o next)
unfolding with_carrier carried
with_carrier-fits what at o next fits = need_fits true table.orders (at.w ∷ at.d ∷ o ∷ []) (are_numbers 5) (λ order. carried what at o order next) refl
    (λ order right. (refl, ((refl, set_fits 5 2 order what.carrier right), dated-fits what at o (o_c_id order) next fits)))

oldest-fits : (what : Delivery) (at : District) (next : ℤ → Walk) (orders : List (Key × Cells)) → ((n : ℤ) → FitsWalk true (next n))
    → FitsWalk true (oldest what at next orders)
unfolding closed
oldest-fits what at next [] fits = fits (pos 0)
oldest-fits what at next (order ∷ orders) fits = (refl, (refl, with_carrier-fits what at (order_number order.0) next fits))

deliver-fits : (what : Delivery) (at : District) (next : ℤ → Walk) → ((n : ℤ) → FitsWalk true (next n)) → FitsWalk true (deliver what at next)
unfolding deliver
deliver-fits what at next fits = find_fits true table.open_orders (at.w ∷ at.d ∷ []) 0 (oldest what at next) (lit< tt, refl)
    (λ orders right. oldest-fits what at next orders fits)

deliveries-fits : (what : Delivery) (n d : ℕ) (given : Cells) → FitsWalk true (deliveries what n d given)
unfolding deliveries
deliveries-fits what zero d given = tt
deliveries-fits what (suc n) d given =
    deliver-fits what (record { w = what.w; d = pos (d + 1) }) (λ o. deliveries what n (d + 1) (given ++ value.Int o ∷ []))
    (λ o. deliveries-fits what n (d + 1) (given ++ value.Int o ∷ []))

delivery-fits : (what : Delivery) → FitsWalk true (delivery what)
unfolding delivery
delivery-fits what = deliveries-fits what DISTRICTS_EACH 0 []

-- ---- Stock-Level

counted-fits : (at : District) (t : ℤ) (count : ℕ) (items : List ℤ) → FitsWalk false (counted at t count items)
unfolding counted
counted-fits at t count [] = tt
counted-fits at t count (i ∷ items) =
    let more : Cells → ℕ = λ stock. if int_lt (s_quantity stock) t then count + 1 else count in
    need_fits false table.stocks (at.w ∷ i ∷ []) (are_numbers 5) (λ stock. counted at t (more stock) items) refl
    (λ stock right. counted-fits at t (more stock) items)

level_of-fits : (at : District) (t next : ℤ) (n : ℕ) (found : List ℤ) → FitsWalk false (level_of at t next n found)
unfolding level_of
level_of-fits at t next zero found = counted-fits at t 0 found
level_of-fits at t next (suc n) found =
    let go : List (Key × Cells) → Walk = λ lines. level_of at t next n (with_items found lines) in
    let find : ℤ → Walk = λ o. find_all table.order_lines (at.w ∷ at.d ∷ o ∷ []) 5 go in
    within_fits false (next -ℤ pos (suc n)) find (λ o. find_fits false table.order_lines (at.w ∷ at.d ∷ o ∷ []) 5 go (lit< tt, refl)
    (λ lines right. level_of-fits at t next n (with_items found lines)))

stock_level-fits : (at : District) (t : ℤ) → FitsWalk false (stock_level at t)
unfolding stock_level last_level
stock_level-fits at t = need_fits false table.districts (at.w ∷ at.d ∷ []) (are_numbers 3) (λ district. level_of at t (d_next_o_id district) 20 []) refl
    (λ district right. level_of-fits at t (d_next_o_id district) 20 [])

-- ---- calls

pub status_by-fits : (nums : List ℤ) → FitsWalk false (status_by nums)
status_by-fits (w ∷ d ∷ by ∷ id ∷ []) = order_status-fits (record { w = w; d = d }) by id
status_by-fits _ = tt

delivery_by-fits : (nums : List ℤ) → FitsWalk true (delivery_by nums)
delivery_by-fits (w ∷ carrier ∷ date ∷ []) = delivery-fits (record { w = w; carrier = carrier; date = date })
delivery_by-fits _ = tt

pub level_by-fits : (nums : List ℤ) → FitsWalk false (level_by nums)
level_by-fits (w ∷ d ∷ t ∷ []) = stock_level-fits (record { w = w; d = d }) t
level_by-fits _ = tt

-- a sentence on the walk of each kind is one on that of each call
pub by_kind : (P : Walk → Type 0) (call : RoutineCall) → P (status_by call.nums) → P (delivery_by call.nums) → P (level_by call.nums) → P (traps Absent)
    → P (walk_of call)
by_kind P call s d l none = either (eqb call.kind ORDER_STATUS) _ _ s
    (either (eqb call.kind DELIVERY) _ _ d (either (eqb call.kind STOCK_LEVEL) _ _ l none))
  where
    either : (b : Bool) (one other : Walk) → P one → P other → P (if b then one else other)
    either true one other a o = a
    either false one other a o = o

pub more-suits : Suits table.tables is_more (λ q call. follow (walk_of call))
more-suits call q seen taken low high = by_kind (λ w. FitsAction table.tables (follow w seen)) call
    (follow_fits false (status_by call.nums) seen (status_by-fits call.nums))
    (follow_fits true (delivery_by call.nums) seen (delivery_by-fits call.nums))
    (follow_fits false (level_by call.nums) seen (level_by-fits call.nums)) tt
