-- Batches of all five requests of order entry.
use Rattle.std.specs.Prelude.{ℕ, ℤ, pos, nat_lt, List, [], ◌∷◌, if◌then◌else◌}
use Rattle.load_gen.specs.Draws.{Drawn, known, ◌>>=◌, random}
use Rattle.range_rules.specs.declared.routines.Work.{Work}
use Rattle.range_rules.specs.declared.routines.Work.TheVariants as work
use Rattle.tpcc_load.specs.declared.districts.TheConstants.{DISTRICTS_EACH}
use Rattle.tpcc_load.specs.declared.settings.Tpcc.{Tpcc}
use Rattle.tpcc_load.specs.Requests.{new_order, payer, payment}
use Rattle.tpcc_routines.specs.declared.calls.TheConstants.{ORDER_STATUS, DELIVERY, STOCK_LEVEL}

-- a call of a routine of this kind
abbrev pub routine : ℕ → List ℤ → Work
routine kind nums = work.Routine (record { kind = kind; nums = nums })

-- of a customer, named as one who pays is
unfoldable pub order_status : Tpcc → Drawn Work
order_status s = do
  w ← random 1 s.warehouses
  d ← random 1 DISTRICTS_EACH
  who ← payer s
  known (routine ORDER_STATUS (pos w ∷ pos d ∷ pos who.0 ∷ pos who.1 ∷ []))

-- its date is the batch's number
unfoldable pub delivery : Tpcc → ℕ → Drawn Work
delivery s number = do
  w ← random 1 s.warehouses
  carrier ← random 1 10
  known (routine DELIVERY (pos w ∷ pos carrier ∷ pos number ∷ []))

unfoldable pub stock_level : Tpcc → Drawn Work
stock_level s = do
  w ← random 1 s.warehouses
  d ← random 1 DISTRICTS_EACH
  t ← random 10 20
  known (routine STOCK_LEVEL (pos w ∷ pos d ∷ pos t ∷ []))

unfoldable pub proc_order : Tpcc → ℕ → Drawn Work
proc_order s number = new_order s number >>= (λ call. known (work.Proc call))

unfoldable pub proc_payment : Tpcc → ℕ → Drawn Work
proc_payment s number = payment s number >>= (λ call. known (work.Proc call))

-- of a hundred requests 45 are new orders, 43 payments, and four each of the others
abbrev pub work_of : Tpcc → ℕ → ℕ → Drawn Work
work_of s number kind =
    if nat_lt kind 45 then proc_order s number else if nat_lt kind 88 then proc_payment s number else if nat_lt kind 92 then order_status s
    else if nat_lt kind 96 then delivery s number else stock_level s

abbrev pub request : Tpcc → ℕ → Drawn Work
request s number = random 0 99 >>= work_of s number
