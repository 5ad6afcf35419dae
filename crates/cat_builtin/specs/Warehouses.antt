-- The tables of the catalogue `tpcc`, and what its procedures share. Money is in cents, rates are in ten-thousandths.
use Rattle.std.specs.Prelude.{ℕ, List, [], ◌∷◌, codes}
use Rattle.aria_base.specs.declared.schemas.Table.{Table}
use Rattle.proc_lang.specs.Terms.{Term}
use Rattle.proc_lang.specs.Steps.{Step}
use Rattle.cat_builtin.specs.Words.{Arg, Get, all_ints, with_text, table_of}

-- ---- tables, by their numbers

abbrev pub warehouses : ℕ
warehouses = 0

abbrev pub districts : ℕ
districts = 1

abbrev pub customers : ℕ
customers = 2

abbrev pub payments : ℕ
payments = 3

abbrev pub open_orders : ℕ
open_orders = 4

abbrev pub orders : ℕ
orders = 5

abbrev pub order_lines : ℕ
order_lines = 6

abbrev pub items : ℕ
items = 7

abbrev pub stocks : ℕ
stocks = 8

abbrev pub name_counts : ℕ
name_counts = 9

abbrev pub name_places : ℕ
name_places = 10

-- each with the number of its key's parts, and its columns, as named behind it: all whole numbers but for c_data
abbrev pub tables : List Table
tables =
    table_of (codes "warehouse") 1 (all_ints 2)  -- w: w_tax, w_ytd
    ∷ table_of (codes "district") 2 (all_ints 3)  -- w d: d_tax, d_ytd, d_next_o_id
    ∷ table_of (codes "customer") 3 (with_text 7 (all_ints 8))  -- w d c: c_last, c_first, c_credit (1 is bad), c_discount,
    -- c_balance, c_ytd_payment, c_payment_cnt, c_data
    ∷ table_of (codes "history") 1 (all_ints 7)  -- number of the request: h_c_id, h_c_d_id, h_c_w_id, h_d_id, h_w_id, h_date, h_amount
    ∷ table_of (codes "new_order") 3 (all_ints 0)  -- w d o: none
    ∷ table_of (codes "orders") 3 (all_ints 5)  -- w d o: o_c_id, o_entry_d, o_carrier_id (0 is none), o_ol_cnt, o_all_local
    ∷ table_of (codes "order_line") 4 (all_ints 5)  -- w d o n: ol_i_id, ol_supply_w_id, ol_delivery_d (0 is none), ol_quantity, ol_amount
    ∷ table_of (codes "item") 1 (all_ints 2)  -- i: i_price, i_original
    ∷ table_of (codes "stock") 2 (all_ints 5)  -- w i: s_quantity, s_ytd, s_order_cnt, s_remote_cnt, s_original
    ∷ table_of (codes "name_count") 3 (all_ints 1)  -- w d last: n
    ∷ table_of (codes "name_place") 4 (all_ints 1)  -- w d last place: c
    ∷ []

-- ---- the first two arguments of both procedures, and the registers of their rows

abbrev pub warehouse : Term
warehouse = Arg 0

abbrev pub district : Term
district = Arg 1

abbrev pub w_tax : ℕ
w_tax = 0

abbrev pub w_ytd : ℕ
w_ytd = 1

abbrev pub d_tax : ℕ
d_tax = 2

abbrev pub d_ytd : ℕ
d_ytd = 3

abbrev pub d_next_o_id : ℕ
d_next_o_id = 4

abbrev pub read_warehouse : Step
read_warehouse = Get warehouses (warehouse ∷ []) (w_tax ∷ w_ytd ∷ [])

abbrev pub read_district : Step
read_district = Get districts (warehouse ∷ district ∷ []) (d_tax ∷ d_ytd ∷ d_next_o_id ∷ [])
