-- The three routines of order entry, each as a walk: what it reads, writes and scans, and how it goes on by what it finds. Where a row is
-- absent that has to be there, the run traps; and so it does by an answer that consistent tables cannot give. Money is in cents.
use Rattle.std.specs.Prelude.{ℕ, zero, suc, ◌+◌, ◌==◌, nat_le, ℤ, pos, ◌+ℤ◌, ◌-ℤ◌, int_lt, Bool, false, if◌then◌else◌}
use Rattle.std.specs.Prelude.{List, [], ◌∷◌, ◌++◌, length, slice_set, Option, Some, None}
use Rattle.std.specs.Ordering.{int_eq, int_cmp}
use Rattle.std.specs.BTreeSet.{insert_key}
use Rattle.aria_base.specs.Orders.{Cells}
use Rattle.aria_base.specs.declared.keys.Key.{Key}
use Rattle.aria_base.specs.declared.values.Value.TheVariants as value
use Rattle.proc_lang.specs.Values.{is_i64, quotient}
use Rattle.proc_lang.specs.declared.ends.End.{End}
use Rattle.proc_lang.specs.declared.ends.End.TheVariants as end
use Rattle.proc_lang.specs.declared.ends.Trap.{Trap}
use Rattle.proc_lang.specs.declared.ends.Trap.TheVariants.{Absent, Overflow, Many}
use Rattle.proc_lang.specs.declared.limits.TheConstants.{MOST_GIVEN}
use Rattle.cat_builtin.specs.Warehouses as table
use Rattle.range_rules.specs.declared.routines.RoutineCall.{RoutineCall}
use Rattle.range_rules.specs.Walks.{Walk, Stops, Reads, Writes, Scans}
use Rattle.tpcc_audit.specs.Facts.{part_at, column_at}
use Rattle.tpcc_load.specs.declared.districts.TheConstants.{DISTRICTS_EACH}
use Rattle.tpcc_routines.specs.declared.calls.TheConstants.{ORDER_STATUS, DELIVERY, STOCK_LEVEL}
use Rattle.tpcc_routines.specs.declared.calls.Delivery.{Delivery}
use Rattle.tpcc_audit.specs.declared.facts.District.{District}
use Rattle.tpcc_routines.specs.declared.statuses.LastOrder.{LastOrder}
use Rattle.tpcc_routines.specs.Answers.{key_at, prefix_at, are_numbers, is_customer, are_rows}

-- ---- columns

abbrev pub d_next_o_id : Cells → ℤ
d_next_o_id row = column_at row 2

abbrev pub c_balance : Cells → ℤ
c_balance row = column_at row 4

abbrev pub o_c_id : Cells → ℤ
o_c_id row = column_at row 0

abbrev pub o_entry_d : Cells → ℤ
o_entry_d row = column_at row 1

abbrev pub o_carrier_id : Cells → ℤ
o_carrier_id row = column_at row 2

abbrev pub ol_i_id : Cells → ℤ
ol_i_id row = column_at row 0

abbrev pub ol_supply_w_id : Cells → ℤ
ol_supply_w_id row = column_at row 1

abbrev pub ol_delivery_d : Cells → ℤ
ol_delivery_d row = column_at row 2

abbrev pub ol_quantity : Cells → ℤ
ol_quantity row = column_at row 3

abbrev pub ol_amount : Cells → ℤ
ol_amount row = column_at row 4

abbrev pub s_quantity : Cells → ℤ
s_quantity row = column_at row 0

-- an order's number, in the key of the order, of its entry among the open ones, and of its lines
abbrev pub order_number : Key → ℤ
order_number k = part_at k.parts 2

-- the row with another number in this column, from 0
abbrev pub with_number : ℕ → ℤ → Cells → Cells
with_number column n row = slice_set row column (value.Int n)

-- ---- steps

abbrev pub traps : Trap → Walk
traps cause = Stops (end.Trap cause)

-- a result goes on where it is a number of 64 bits
abbrev pub in_range : ℤ → Option ℤ
in_range n = if is_i64 n then Some n else None

abbrev pub on_number : (ℤ → Walk) → Option ℤ → Walk
on_number next (Some n) = next n
on_number next None = traps Overflow

abbrev pub within : ℤ → (ℤ → Walk) → Walk
within n next = on_number next (in_range n)

abbrev pub on_row : (Cells → Bool) → (Cells → Walk) → Option Cells → Walk
on_row is_right next None = traps Absent
on_row is_right next (Some row) = if is_right row then next row else traps Absent

-- the row at a key
abbrev pub need : ℕ → List ℤ → (Cells → Bool) → (Cells → Walk) → Walk
need of numbers is_right next = Reads (key_at of numbers) (on_row is_right next)

-- the rows with these numbers in front of their keys, in the order of the number behind them
abbrev pub find_all : ℕ → List ℤ → ℕ → (List (Key × Cells) → Walk) → Walk
find_all of numbers columns next = Scans (prefix_at of numbers)
    (λ rows. if are_rows (prefix_at of numbers) columns rows then next rows else traps Absent)

-- ---- Order-Status, `w d by id`: the last order of a customer, with its lines

-- item, supplying warehouse, quantity, amount, delivery date
abbrev pub line_values : Cells → Cells
line_values line = value.Int (ol_i_id line) ∷ value.Int (ol_supply_w_id line) ∷ value.Int (ol_quantity line) ∷ value.Int (ol_amount line)
    ∷ value.Int (ol_delivery_d line) ∷ []

abbrev pub with_lines : Cells → List (Key × Cells) → Cells
with_lines given [] = given
with_lines given (line ∷ lines) = with_lines (given ++ line_values line.1) lines

-- a run gives no more values than a procedure may
abbrev pub given_end : Cells → End
given_end values = if nat_le (length values) MOST_GIVEN then end.Done values else end.Trap Many

abbrev pub gives : Cells → Walk
gives values = Stops (given_end values)

-- what is told of an order
abbrev pub told_of : Key × Cells → LastOrder
told_of order = record { o = order_number order.0; entry = o_entry_d order.1; carrier = o_carrier_id order.1 }

-- the last one of the customer's orders, which is that of the greatest number
abbrev pub last_order : ℤ → Option LastOrder → List (Key × Cells) → Option LastOrder
last_order c found [] = found
last_order c found (order ∷ orders) = last_order c (if int_eq (o_c_id order.1) c then Some (told_of order) else found) orders

-- the order's lines
unfoldable pub with_order : District → ℤ → ℤ → LastOrder → Walk
with_order at c balance order = find_all table.order_lines (at.w ∷ at.d ∷ order.o ∷ []) 5 (λ lines. gives (with_lines
    (value.Int c ∷ value.Int balance ∷ value.Int order.o ∷ value.Int order.entry ∷ value.Int order.carrier ∷ []) lines))

abbrev pub with_last : District → ℤ → ℤ → Option LastOrder → Walk
with_last at c balance (Some order) = with_order at c balance order
with_last at c balance None = gives (value.Int c ∷ value.Int balance ∷ value.Int (pos 0) ∷ [])

-- the customer's orders
unfoldable pub orders_of : District → ℤ → ℤ → Walk
orders_of at c balance = find_all table.orders (at.w ∷ at.d ∷ []) 5 (λ orders. with_last at c balance (last_order c None orders))

unfoldable pub status_of : District → ℤ → Walk
status_of at c = need table.customers (at.w ∷ at.d ∷ c ∷ []) is_customer (λ customer. orders_of at c (c_balance customer))

unfoldable pub at_place : District → ℤ → ℤ → Walk
at_place at name place =
    need table.name_places (at.w ∷ at.d ∷ name ∷ place ∷ []) (are_numbers 1) (λ row. status_of at (column_at row 0))

-- the one in the middle of those of a name, of two in the middle the first
abbrev pub namesake : District → ℤ → Option Cells → Walk
namesake at name None = Stops (end.Back 2)
namesake at name (Some row) =
    if are_numbers 1 row then within (column_at row 0 +ℤ pos 1) (λ n. at_place at name (quotient n (pos 2))) else traps Absent

-- by number, or where `by` is not 0 by name; a name that nobody has fails with 2
unfoldable pub order_status : District → ℤ → ℤ → Walk
order_status at by id =
    if int_eq by (pos 0) then status_of at id else Reads (key_at table.name_counts (at.w ∷ at.d ∷ id ∷ [])) (namesake at id)

-- ---- Delivery, `w carrier date`: of each district of a warehouse the oldest open order is delivered

-- a line gets the date, and its amount is added to the sum
abbrev pub line_dated : ℤ → ℤ → Key × Cells → (ℤ → Walk) → Walk
line_dated date sum line next = Writes line.0 (Some (with_number 2 date line.1)) (within (sum +ℤ ol_amount line.1) next)

-- the lines get the date, and line by line their amounts are summed up
unfoldable pub each_dated : ℤ → ℤ → List (Key × Cells) → (ℤ → Walk) → Walk
each_dated date sum [] next = next sum
each_dated date sum (line ∷ lines) next = line_dated date sum line (λ sum. each_dated date sum lines next)

abbrev pub all_dated : ℤ → List (Key × Cells) → (ℤ → Walk) → Walk
all_dated date lines next = each_dated date (pos 0) lines next

-- the customer's balance is raised
unfoldable pub with_balance : District → ℤ → ℤ → Cells → ℤ → (ℤ → Walk) → Walk
with_balance at o c customer balance next =
    Writes (key_at table.customers (at.w ∷ at.d ∷ c ∷ [])) (Some (with_number 4 balance customer)) (next o)

unfoldable pub credited : District → ℤ → ℤ → ℤ → (ℤ → Walk) → Walk
credited at o c amount next = need table.customers (at.w ∷ at.d ∷ c ∷ []) is_customer (λ customer.
    within (c_balance customer +ℤ amount) (λ balance. with_balance at o c customer balance next))

unfoldable pub with_dates : Delivery → District → ℤ → ℤ → List (Key × Cells) → (ℤ → Walk) → Walk
with_dates what at o c lines next = all_dated what.date lines (λ amount. credited at o c amount next)

unfoldable pub dated : Delivery → District → ℤ → ℤ → (ℤ → Walk) → Walk
dated what at o c next = find_all table.order_lines (at.w ∷ at.d ∷ o ∷ []) 5 (λ lines. with_dates what at o c lines next)

-- the order gets its carrier
unfoldable pub carried : Delivery → District → ℤ → Cells → (ℤ → Walk) → Walk
carried what at o order next =
    Writes (key_at table.orders (at.w ∷ at.d ∷ o ∷ [])) (Some (with_number 2 what.carrier order)) (dated what at o (o_c_id order) next)

unfoldable pub with_carrier : Delivery → District → ℤ → (ℤ → Walk) → Walk
with_carrier what at o next = need table.orders (at.w ∷ at.d ∷ o ∷ []) (are_numbers 5) (λ order. carried what at o order next)

-- the order is open no longer
unfoldable pub closed : Delivery → District → ℤ → (ℤ → Walk) → Walk
closed what at o next = Writes (key_at table.open_orders (at.w ∷ at.d ∷ o ∷ [])) None (with_carrier what at o next)

-- the least number comes first; a district without open orders gives 0
abbrev pub oldest : Delivery → District → (ℤ → Walk) → List (Key × Cells) → Walk
oldest what at next [] = next (pos 0)
oldest what at next (order ∷ orders) = closed what at (order_number order.0) next

unfoldable pub deliver : Delivery → District → (ℤ → Walk) → Walk
deliver what at next = find_all table.open_orders (at.w ∷ at.d ∷ []) 0 (oldest what at next)

-- so many districts, behind so many
unfoldable pub deliveries : Delivery → ℕ → ℕ → Cells → Walk
deliveries what zero d given = gives given
deliveries what (suc n) d given = deliver what (record { w = what.w; d = pos (d + 1) }) (λ o. deliveries what n (d + 1) (given ++ value.Int o ∷ []))

unfoldable pub delivery : Delivery → Walk
delivery what = deliveries what DISTRICTS_EACH 0 []

-- ---- Stock-Level, `w d t`: how many items of a district's last twenty orders have less than t in stock

-- the items of these lines with those found before, each once, in rising order
abbrev pub with_items : List ℤ → List (Key × Cells) → List ℤ
with_items found [] = found
with_items found (line ∷ lines) = with_items (insert_key int_cmp found (ol_i_id line.1)) lines

-- how much the warehouse has of an item
abbrev pub quantity_of : District → ℤ → (ℤ → Walk) → Walk
quantity_of at i next = need table.stocks (at.w ∷ i ∷ []) (are_numbers 5) (λ stock. next (s_quantity stock))

unfoldable pub counted : District → ℤ → ℕ → List ℤ → Walk
counted at t count [] = gives (value.Int (pos count) ∷ [])
counted at t count (i ∷ items) = quantity_of at i (λ quantity. counted at t (if int_lt quantity t then count + 1 else count) items)

-- the lines of the order that comes so many before the next one
abbrev pub lines_before : District → ℤ → ℕ → (List (Key × Cells) → Walk) → Walk
lines_before at next n go = within (next -ℤ pos n) (λ o. find_all table.order_lines (at.w ∷ at.d ∷ o ∷ []) 5 go)

-- so many orders before the next one, in rising order
unfoldable pub level_of : District → ℤ → ℤ → ℕ → List ℤ → Walk
level_of at t next zero found = counted at t 0 found
level_of at t next (suc n) found = lines_before at next (suc n) (λ lines. level_of at t next n (with_items found lines))

-- with all of them
unfoldable pub last_level : District → ℤ → ℤ → Walk
last_level at t next = level_of at t next 20 []

unfoldable pub stock_level : District → ℤ → Walk
stock_level at t = need table.districts (at.w ∷ at.d ∷ []) (are_numbers 3) (λ district. last_level at t (d_next_o_id district))

-- ---- calls

abbrev pub status_by : List ℤ → Walk
status_by (w ∷ d ∷ by ∷ id ∷ []) = order_status (record { w = w; d = d }) by id
status_by _ = traps Absent

abbrev pub delivery_by : List ℤ → Walk
delivery_by (w ∷ carrier ∷ date ∷ []) = delivery (record { w = w; carrier = carrier; date = date })
delivery_by _ = traps Absent

abbrev pub level_by : List ℤ → Walk
level_by (w ∷ d ∷ t ∷ []) = stock_level (record { w = w; d = d }) t
level_by _ = traps Absent

-- by its kind and its numbers
abbrev pub walk_of : RoutineCall → Walk
walk_of call =
    if call.kind == ORDER_STATUS then status_by call.nums else if call.kind == DELIVERY then delivery_by call.nums
    else if call.kind == STOCK_LEVEL then level_by call.nums else traps Absent

abbrev pub is_more : RoutineCall → Bool
is_more call = if call.kind == ORDER_STATUS then length call.nums == 4 else if call.kind == DELIVERY then length call.nums == 3
    else if call.kind == STOCK_LEVEL then length call.nums == 3 else false
