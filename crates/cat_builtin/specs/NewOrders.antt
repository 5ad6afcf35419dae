-- `neworder w d c entry lines`: customer c of district d of warehouse w orders the lines. A line has an item, the warehouse that
-- supplies it, and a quantity.
use Rattle.std.specs.Prelude.{ℕ, List, [], ◌∷◌, codes}
use Rattle.proc_lang.specs.declared.procs.ArgKind.TheVariants as kind
use Rattle.proc_lang.specs.declared.procs.Proc.{Proc}
use Rattle.proc_lang.specs.Terms.{Term, Text, MulDiv}
use Rattle.proc_lang.specs.Steps.{Step, Let, Put, If, Each, Give}
use Rattle.proc_lang.specs.Syntax.{in_turn}
use Rattle.cat_builtin.specs.Words.{Reg, Arg, Item, Len, Add, Sub, Mul, Eq, Ne, Le, And, Get, Need, all_ints, with_text, int, more, raise}
use Rattle.cat_builtin.specs.Warehouses.{districts, customers, open_orders, orders, order_lines, items, stocks, warehouse}
use Rattle.cat_builtin.specs.Warehouses.{district, w_tax, d_tax, d_ytd, d_next_o_id, read_warehouse, read_district}

-- ---- the further arguments, and the numbers of a line

abbrev pub customer : Term
customer = Arg 2

abbrev pub entry : Term
entry = Arg 3

abbrev pub lines : ℕ
lines = 4

abbrev pub item : Term
item = Item 0

abbrev pub supply : Term
supply = Item 1

abbrev pub quantity : Term
quantity = Item 2

-- ---- the further registers

abbrev pub order : ℕ
order = 5

abbrev pub c_last : ℕ
c_last = 6

abbrev pub c_first : ℕ
c_first = 7

abbrev pub c_credit : ℕ
c_credit = 8

abbrev pub c_discount : ℕ
c_discount = 9

abbrev pub c_balance : ℕ
c_balance = 10

abbrev pub c_ytd_payment : ℕ
c_ytd_payment = 11

abbrev pub c_payment_cnt : ℕ
c_payment_cnt = 12

abbrev pub c_data : ℕ
c_data = 13

abbrev pub all_local : ℕ
all_local = 14

abbrev pub sum : ℕ
sum = 15

abbrev pub number : ℕ
number = 16

abbrev pub i_price : ℕ
i_price = 17

abbrev pub i_original : ℕ
i_original = 18

abbrev pub s_quantity : ℕ
s_quantity = 19

abbrev pub s_ytd : ℕ
s_ytd = 20

abbrev pub s_order_cnt : ℕ
s_order_cnt = 21

abbrev pub s_remote_cnt : ℕ
s_remote_cnt = 22

abbrev pub s_original : ℕ
s_original = 23

abbrev pub rest : ℕ
rest = 24

abbrev pub amount : ℕ
amount = 25

-- ---- the order

-- the district's next order gets the next number
abbrev pub count_order : Step
count_order = Put districts (warehouse ∷ district ∷ []) (Reg d_tax ∷ Reg d_ytd ∷ more d_next_o_id (int 1) ∷ [])

abbrev pub read_customer : Step
read_customer = Get customers (warehouse ∷ district ∷ customer ∷ [])
    (c_last ∷ c_first ∷ c_credit ∷ c_discount ∷ c_balance ∷ c_ytd_payment ∷ c_payment_cnt ∷ c_data ∷ [])

-- another warehouse supplies the line
abbrev pub is_remote : Term
is_remote = Ne supply warehouse

-- the order is local where no line is remote
abbrev pub note_remote : Step
note_remote = Each lines (in_turn (If is_remote (in_turn (Let all_local (int 0) ∷ [])) (in_turn []) ∷ []))

-- no carrier has it yet
abbrev pub write_order : Step
write_order = Put orders (warehouse ∷ district ∷ Reg order ∷ []) (customer ∷ entry ∷ int 0 ∷ Len lines ∷ Reg all_local ∷ [])

abbrev pub open_order : Step
open_order = Put open_orders (warehouse ∷ district ∷ Reg order ∷ []) []

-- what is left by the discount, times what the taxes make of it, both in ten-thousandths
abbrev pub rate : Term
rate = Mul (Sub (int 10000) (Reg c_discount)) (Add (Add (int 10000) (Reg w_tax)) (Reg d_tax))

-- the sum less the discount, with both taxes
abbrev pub total : Term
total = MulDiv (Reg sum) rate (int 100000000)

-- ---- a line of it

abbrev pub read_item : Step
read_item = Need items (item ∷ []) (i_price ∷ i_original ∷ []) 1

abbrev pub read_stock : Step
read_stock = Get stocks (supply ∷ item ∷ []) (s_quantity ∷ s_ytd ∷ s_order_cnt ∷ s_remote_cnt ∷ s_original ∷ [])

abbrev pub left_over : Term
left_over = Sub (Reg s_quantity) quantity

-- a stock that would fall below 10 is filled up by 91
abbrev pub take_stock : Step
take_stock = If (Le (int 10) left_over)
    (in_turn (Let rest left_over ∷ []))
    (in_turn (Let rest (Add left_over (int 91)) ∷ []))

-- a remote line counts as one more remote order, any other as none
abbrev pub write_stock : Step
write_stock = Put stocks (supply ∷ item ∷ [])
    (Reg rest ∷ more s_ytd quantity ∷ more s_order_cnt (int 1) ∷ more s_remote_cnt is_remote ∷ Reg s_original ∷ [])

abbrev pub price_line : Step
price_line = Let amount (Mul quantity (Reg i_price))

-- it is not delivered yet
abbrev pub write_line : Step
write_line = Put order_lines (warehouse ∷ district ∷ Reg order ∷ Reg number ∷ [])
    (item ∷ supply ∷ int 0 ∷ quantity ∷ Reg amount ∷ [])

-- the brand is "B" where item and stock are both original, else "G"
abbrev pub give_brand : Step
give_brand = If (And (Eq (Reg i_original) (int 1)) (Eq (Reg s_original) (int 1)))
    (in_turn (Give (Text (codes "B")) ∷ []))
    (in_turn (Give (Text (codes "G")) ∷ []))

abbrev pub order_line : List Step
order_line =
    raise number (int 1)
    ∷ read_item
    ∷ read_stock
    ∷ take_stock
    ∷ write_stock
    ∷ price_line
    ∷ raise sum (Reg amount)
    ∷ write_line
    ∷ Give (Reg rest)
    ∷ give_brand
    ∷ Give (Reg amount)
    ∷ []

-- ---- the whole

abbrev pub new_order : Proc
new_order = record {
  name = codes "neworder";
  args = kind.Int ∷ kind.Int ∷ kind.Int ∷ kind.Int ∷ kind.List 3 ∷ [];
  regs = with_text c_data (all_ints 26);
  body = in_turn (
      read_warehouse
      ∷ read_district
      ∷ Let order (Reg d_next_o_id)
      ∷ count_order
      ∷ read_customer
      ∷ Let all_local (int 1)
      ∷ note_remote
      ∷ write_order
      ∷ open_order
      ∷ Give (Reg order)
      ∷ Let sum (int 0)
      ∷ Let number (int 0)
      ∷ Each lines (in_turn order_line)
      ∷ Give total
      ∷ []);
}
