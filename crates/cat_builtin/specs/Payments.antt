-- `payment w d cw cd by id amount date`: a customer of district cd of warehouse cw pays the amount at district d of warehouse w. The
-- customer is named by a number, or where `by` is not 0 by a last name, and is then the middle one of those of that name.
use Rattle.std.specs.Prelude.{ℕ, List, [], ◌∷◌, codes}
use Rattle.proc_lang.specs.declared.limits.TheConstants.{MOST_FRONT}
use Rattle.proc_lang.specs.declared.procs.Proc.{Proc}
use Rattle.proc_lang.specs.Terms.{Term, Text, Me, Front}
use Rattle.proc_lang.specs.Steps.{Step, Let, Put, If, Give}
use Rattle.proc_lang.specs.Syntax.{in_turn}
use Rattle.cat_builtin.specs.Words.{Reg, Arg, Sub, Div, Eq, Cat, Show, Get, Need, all_ints, with_text, int_args, int, more}
use Rattle.cat_builtin.specs.Warehouses.{warehouses, districts, customers, payments, name_counts, name_places, warehouse}
use Rattle.cat_builtin.specs.Warehouses.{district, w_tax, w_ytd, d_tax, d_ytd, d_next_o_id, read_warehouse, read_district}

-- ---- the further arguments

abbrev pub customer_warehouse : Term
customer_warehouse = Arg 2

abbrev pub customer_district : Term
customer_district = Arg 3

abbrev pub by_name : Term
by_name = Arg 4

abbrev pub id : Term
id = Arg 5

abbrev pub amount : Term
amount = Arg 6

abbrev pub date : Term
date = Arg 7

-- ---- the further registers

abbrev pub namesakes : ℕ
namesakes = 5

abbrev pub customer : ℕ
customer = 6

abbrev pub c_last : ℕ
c_last = 7

abbrev pub c_first : ℕ
c_first = 8

abbrev pub c_credit : ℕ
c_credit = 9

abbrev pub c_discount : ℕ
c_discount = 10

abbrev pub c_balance : ℕ
c_balance = 11

abbrev pub c_ytd_payment : ℕ
c_ytd_payment = 12

abbrev pub c_payment_cnt : ℕ
c_payment_cnt = 13

abbrev pub c_data : ℕ
c_data = 14

abbrev pub data_after : ℕ
data_after = 15

-- ---- the warehouse and the district

abbrev pub pay_warehouse : Step
pay_warehouse = Put warehouses (warehouse ∷ []) (Reg w_tax ∷ more w_ytd amount ∷ [])

abbrev pub pay_district : Step
pay_district = Put districts (warehouse ∷ district ∷ []) (Reg d_tax ∷ more d_ytd amount ∷ Reg d_next_o_id ∷ [])

-- ---- the customer

-- how many customers have the name; where there is no such entry the run fails with 2
abbrev pub count_namesakes : Step
count_namesakes = Need name_counts (customer_warehouse ∷ customer_district ∷ id ∷ []) (namesakes ∷ []) 2

-- the place in the middle, of two the first
abbrev pub middle : Term
middle = Div (more namesakes (int 1)) (int 2)

abbrev pub find_namesake : Step
find_namesake = Get name_places (customer_warehouse ∷ customer_district ∷ id ∷ middle ∷ []) (customer ∷ [])

abbrev pub find_customer : Step
find_customer = If by_name
    (in_turn (count_namesakes ∷ find_namesake ∷ []))
    (in_turn (Let customer id ∷ []))

abbrev pub customer_key : List Term
customer_key = customer_warehouse ∷ customer_district ∷ Reg customer ∷ []

abbrev pub read_customer : Step
read_customer = Get customers customer_key
    (c_last ∷ c_first ∷ c_credit ∷ c_discount ∷ c_balance ∷ c_ytd_payment ∷ c_payment_cnt ∷ c_data ∷ [])

-- a number in print, and a space
abbrev pub printed : Term → Term
printed t = Cat (Show t) (Text (codes " "))

-- who paid, where, and how much
abbrev pub entry : Term
entry = Cat
    (Cat (Cat (Cat (Cat (printed (Reg customer)) (printed customer_district)) (printed customer_warehouse))
    (printed district)) (printed warehouse)) (printed amount)

-- with bad credit the payment is entered in front of what is known of the customer
abbrev pub note_payment : Step
note_payment = If (Eq (Reg c_credit) (int 1))
    (in_turn (Let data_after (Front entry (Reg c_data) MOST_FRONT) ∷ []))
    (in_turn (Let data_after (Reg c_data) ∷ []))

abbrev pub balance_after : Term
balance_after = Sub (Reg c_balance) amount

abbrev pub pay_customer : Step
pay_customer = Put customers customer_key
    (Reg c_last ∷ Reg c_first ∷ Reg c_credit ∷ Reg c_discount ∷ balance_after ∷ more c_ytd_payment amount
    ∷ more c_payment_cnt (int 1) ∷ Reg data_after ∷ [])

-- ---- the whole

-- under the number of the request
abbrev pub write_payment : Step
write_payment = Put payments (Me ∷ [])
    (Reg customer ∷ customer_district ∷ customer_warehouse ∷ district ∷ warehouse ∷ date ∷ amount ∷ [])

abbrev pub payment : Proc
payment = record {
  name = codes "payment";
  args = int_args 8;
  regs = with_text data_after (with_text c_data (all_ints 16));
  body = in_turn (
      read_warehouse
      ∷ pay_warehouse
      ∷ read_district
      ∷ pay_district
      ∷ find_customer
      ∷ read_customer
      ∷ note_payment
      ∷ pay_customer
      ∷ write_payment
      ∷ Give (Reg customer)
      ∷ Give balance_after
      ∷ []);
}
