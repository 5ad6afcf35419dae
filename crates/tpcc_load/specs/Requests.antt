-- The requests of order entry: new orders and payments.
use Rattle.std.specs.Prelude.{ℕ, ◌+◌, ◌==◌, ◌&&◌, Bool, nat_lt, nat_le, if◌then◌else◌, ℤ, pos, List, [], ◌∷◌}
use Rattle.aria_base.specs.declared.calls.Arg.TheVariants as arg
use Rattle.aria_base.specs.declared.calls.Call.{Call}
use Rattle.load_gen.specs.Draws.{Drawn, known, ◌>>=◌, random}
use Rattle.tpcc_load.specs.declared.districts.TheConstants.{DISTRICTS_EACH}
use Rattle.tpcc_load.specs.declared.requests.Start.{Start}
use Rattle.tpcc_load.specs.declared.settings.Tpcc.{Tpcc}
use Rattle.tpcc_load.specs.Draws.{over, drawn_name, drawn_customer, drawn_item, other_warehouse}
use Rattle.tpcc_load.specs.Heads.{names}

-- ---- new orders

-- a line comes from another warehouse once in a hundred times, where there is one
abbrev pub remote_supply : Tpcc → ℕ → ℕ → Drawn ℕ
remote_supply s w chance = if chance == 1 then other_warehouse s.warehouses w else known w

abbrev pub supply : Tpcc → ℕ → Drawn ℕ
supply s w = if nat_lt 1 s.warehouses then random 1 100 >>= remote_supply s w else known w

-- an item; where it `fails`, one is drawn all the same, and one named that there is not
abbrev pub item : Tpcc → Bool → Drawn ℕ
item s fails = drawn_item s.items >>= (λ i. known (if fails then s.items + 1 else i))

-- item, supplying warehouse and quantity
abbrev pub line : Tpcc → ℕ → Bool → Drawn (List (List ℤ))
line s w fails = do
  i ← item s fails
  from ← supply s w
  quantity ← random 1 10
  known ((pos i ∷ pos from ∷ pos quantity ∷ []) ∷ [])

-- the lines of an order, of which the last one may be to fail
abbrev pub line_at : Tpcc → Start → ℕ → Drawn (List (List ℤ))
line_at s start n = line s start.w (start.fails && (n == start.count))

abbrev pub order_lines : Tpcc → Start → Drawn (List (List ℤ))
order_lines s start = over start.count (line_at s start)

-- who orders where, how many lines, and whether the order is to fail, as one of a hundred is
unfoldable pub order_start : Tpcc → Drawn Start
order_start s = do
  w ← random 1 s.warehouses
  d ← random 1 DISTRICTS_EACH
  c ← drawn_customer s.customers
  count ← random 5 15
  chance ← random 1 100
  known (record { w = w; d = d; c = c; count = count; fails = chance == 1 })

abbrev pub order_call : ℕ → Start → List (List ℤ) → Call
order_call number start lines = record {
  proc = 0;
  args = arg.Int (pos start.w) ∷ arg.Int (pos start.d) ∷ arg.Int (pos start.c) ∷ arg.Int (pos number) ∷ arg.List lines ∷ [];
}

unfoldable pub new_order : Tpcc → ℕ → Drawn Call
new_order s number = do
  start ← order_start s
  lines ← order_lines s start
  known (order_call number start lines)

-- ---- payments

-- the customer's warehouse and district: in fifteen of a hundred payments another warehouse, where there is one
abbrev pub distant_home : Tpcc → ℕ → Drawn (ℕ × ℕ)
distant_home s w = do
  cw ← other_warehouse s.warehouses w
  cd ← random 1 DISTRICTS_EACH
  known (cw, cd)

abbrev pub maybe_distant : Tpcc → ℕ → ℕ → ℕ → Drawn (ℕ × ℕ)
maybe_distant s w d chance = if nat_le chance 15 then distant_home s w else known (w, d)

abbrev pub home : Tpcc → ℕ → ℕ → Drawn (ℕ × ℕ)
home s w d = if nat_lt 1 s.warehouses then random 1 100 >>= maybe_distant s w d else known (w, d)

-- by name in sixty of a hundred payments, else by number; 1 is by name
abbrev pub payer : Tpcc → Drawn (ℕ × ℕ)
payer s = random 1 100 >>= (λ chance.
    if nat_le chance 60 then drawn_name (names s) >>= (λ id. known (1, id))
    else drawn_customer s.customers >>= (λ id. known (0, id)))

abbrev pub payment_call : ℕ → ℕ → ℕ → ℕ × ℕ → ℕ × ℕ → ℕ → Call
payment_call number w d at by amount = record {
  proc = 1;
  args = arg.Int (pos w) ∷ arg.Int (pos d) ∷ arg.Int (pos at.0) ∷ arg.Int (pos at.1) ∷ arg.Int (pos by.0) ∷ arg.Int (pos by.1)
      ∷ arg.Int (pos amount) ∷ arg.Int (pos number) ∷ [];
}

unfoldable pub payment : Tpcc → ℕ → Drawn Call
payment s number = do
  w ← random 1 s.warehouses
  d ← random 1 DISTRICTS_EACH
  at ← home s w d
  by ← payer s
  amount ← random 100 500000
  known (payment_call number w d at by amount)

-- ---- batches

-- forty-five of eighty-eight requests are new orders
abbrev pub request : Tpcc → ℕ → Drawn Call
request s number = random 0 87 >>= (λ kind. if nat_lt kind 45 then new_order s number else payment s number)
