-- Order entry before the first request: items, warehouses with their stock, districts with their customers, orders and names.
-- Money is in cents, and rates are in ten-thousandths.
use Rattle.std.specs.Prelude.{◌≤◌, ℕ, zero, suc, ◌+◌, ◌-◌, ◌*◌, ◌/◌, min, nat_le, nat_lt, nat_eq, ◌&&◌, ◌||◌, Bool, if◌then◌else◌}
use Rattle.std.specs.Prelude.{ℤ, pos, neg_ℤ, List, [], ◌∷◌, ◌++◌, map, length, slice_index_or}
use Rattle.std.specs.List.{filter, range_with_len}
use lib.ListN.{set}
use Rattle.aria_base.specs.declared.values.Value.TheVariants as value
use Rattle.cat_builtin.specs.Warehouses as table
use Rattle.load_gen.specs.Draws.{Drawn, known, ◌>>=◌, random, percent}
use Rattle.tpcc_load.specs.declared.customers.Person.{Person}
use Rattle.tpcc_load.specs.declared.districts.TheConstants.{DISTRICTS_EACH}
use Rattle.tpcc_load.specs.declared.names.Rank.{Rank}
use Rattle.tpcc_load.specs.declared.settings.Tpcc.{Tpcc}
use Rattle.tpcc_load.specs.Draws.{over, drawn_name}
use Rattle.tpcc_load.specs.Rows.{Row, key_of, row_of}

-- the settings are within their ranges
pub record IsWithin (s : Tpcc) : Type 0 where
  pub warehouses : (1 ≤ s.warehouses) × (s.warehouses ≤ 4)
  pub customers : (30 ≤ s.customers) × (s.customers ≤ 3000)
  pub items : (100 ≤ s.items) × (s.items ≤ 100000)

-- ---- amounts

-- how many names the customers of a district share
abbrev pub names : Tpcc → ℕ
names s = min 1000 (s.customers / 3)

-- the greatest number of an order that is delivered; those behind it are open
abbrev pub delivered : Tpcc → ℕ
delivered s = s.customers - s.customers * 3 / 10

abbrev pub flag : Bool → ℤ
flag b = pos (if b then 1 else 0)

-- ---- items and stock

abbrev pub item : ℕ → Drawn (List Row)
item i = do
  price ← random 100 10000
  original ← percent 10
  known (row_of table.items (i ∷ []) (pos price ∷ flag original ∷ []) ∷ [])

abbrev pub stock : ℕ → ℕ → Drawn (List Row)
stock w i = do
  quantity ← random 10 100
  original ← percent 10
  known (row_of table.stocks (w ∷ i ∷ []) (pos quantity ∷ pos 0 ∷ pos 0 ∷ pos 0 ∷ flag original ∷ []) ∷ [])

-- ---- customers and their names

-- the first customers have each a name of their own, so that every name has somebody
abbrev pub last_name : Tpcc → ℕ → Drawn ℕ
last_name s c = if nat_le c (names s) then known (c - 1) else drawn_name (names s)

abbrev pub person : Tpcc → ℕ → Drawn (List Person)
person s c = do
  last ← last_name s c
  first ← random 0 9999999
  credit ← percent 10
  discount ← random 0 5000
  known (record { number = c; last = last; first = first; credit = credit; discount = discount } ∷ [])

-- each begins with a debt of ten, one payment of ten, and no text
abbrev pub customer_row : ℕ → ℕ → Person → Row
customer_row w d p = (
  key_of table.customers (w ∷ d ∷ p.number ∷ []),
  map value.Int (pos p.last ∷ pos p.first ∷ flag p.credit ∷ pos p.discount ∷ neg_ℤ (pos 1000) ∷ pos 1000 ∷ pos 1 ∷ [])
      ++ value.Text [] ∷ [],
)

abbrev pub rank_of : Person → Rank
rank_of p = record { last = p.last; first = p.first; number = p.number }

-- ---- orders

-- what stands at two places, from 1, changes them
abbrev pub exchange : ℕ → ℕ → List ℕ → List ℕ
exchange i j list = set (set list (i - 1) (slice_index_or list (j - 1) 0)) (j - 1) (slice_index_or list (i - 1) 0)

-- each place, from this one down to the second, is exchanged with one that is drawn among it and those before
unfoldable pub shuffled : ℕ → List ℕ → Drawn (List ℕ)
shuffled zero list = known list
shuffled (suc zero) list = known list
shuffled (suc (suc k)) list = random 1 (k + 2) >>= (λ j. shuffled (suc k) (exchange (k + 2) j list))

-- an open order's lines are not delivered, and each has an amount
abbrev pub line_amount : Bool → Drawn ℕ
line_amount done = if done then known 0 else random 1 999999

abbrev pub order_line : Tpcc → ℕ → ℕ → ℕ → ℕ → Drawn (List Row)
order_line s w d o n = do
  i ← random 1 s.items
  amount ← line_amount (nat_le o (delivered s))
  known (row_of table.order_lines (w ∷ d ∷ o ∷ n ∷ [])
      (pos i ∷ pos w ∷ flag (nat_le o (delivered s)) ∷ pos 5 ∷ pos amount ∷ []) ∷ [])

abbrev pub carrier : Bool → Drawn ℕ
carrier done = if done then random 1 10 else known 0

abbrev pub open_rows : Tpcc → ℕ → ℕ → ℕ → List Row
open_rows s w d o = if nat_le o (delivered s) then [] else row_of table.open_orders (w ∷ d ∷ o ∷ []) [] ∷ []

-- an order of this customer
abbrev pub order_of : Tpcc → ℕ → ℕ → ℕ → ℕ → Drawn (List Row)
order_of s w d customer o = do
  by ← carrier (nat_le o (delivered s))
  count ← random 5 15
  lines ← over count (order_line s w d o)
  known (row_of table.orders (w ∷ d ∷ o ∷ []) (pos customer ∷ pos 1 ∷ pos by ∷ pos count ∷ pos 1 ∷ [])
      ∷ lines ++ open_rows s w d o)

-- it is of the customer who stands at its place
abbrev pub order : Tpcc → ℕ → ℕ → List ℕ → ℕ → Drawn (List Row)
order s w d places o = order_of s w d (slice_index_or places (o - 1) 0) o

-- ---- districts and warehouses

abbrev pub district_row : Tpcc → ℕ → ℕ → ℕ → Row
district_row s w d tax = row_of table.districts (w ∷ d ∷ []) (pos tax ∷ pos 3000000 ∷ pos (s.customers + 1) ∷ [])

-- of two who share a name, the one of the lesser first name stands before the other, and then the one of the lesser number
abbrev pub stands_before : Rank → Rank → Bool
stands_before r other = nat_lt r.first other.first || (nat_eq r.first other.first && nat_lt r.number other.number)

-- the place of one among those who share its name, from 1
abbrev pub place_among : List Rank → Rank → ℕ
place_among sharing r = length (filter (λ other. stands_before other r) sharing) + 1

abbrev pub place_row : ℕ → ℕ → List Rank → Rank → Row
place_row w d sharing r = row_of table.name_places (w ∷ d ∷ r.last ∷ place_among sharing r ∷ []) (pos r.number ∷ [])

-- how many share a name, and the place of each of them
abbrev pub sharing_rows : ℕ → ℕ → ℕ → List Rank → List Row
sharing_rows w d last [] = []
sharing_rows w d last (r ∷ rs) =
    row_of table.name_counts (w ∷ d ∷ last ∷ []) (pos (length (r ∷ rs)) ∷ []) ∷ map (place_row w d (r ∷ rs)) (r ∷ rs)

abbrev pub sharing : ℕ → List Rank → List Rank
sharing last ranks = filter (λ r. nat_eq r.last last) ranks

-- the same of the names from 0, so many
unfoldable pub name_rows : ℕ → ℕ → List Rank → ℕ → List Row
name_rows w d ranks zero = []
name_rows w d ranks (suc n) = name_rows w d ranks n ++ sharing_rows w d n (sharing n ranks)

abbrev pub district : Tpcc → ℕ → ℕ → Drawn (List Row)
district s w d = do
  tax ← random 0 2000
  people ← over s.customers (person s)
  places ← shuffled s.customers (range_with_len 1 s.customers)
  orders ← over s.customers (order s w d places)
  known (district_row s w d tax ∷ map (customer_row w d) people ++ orders ++ name_rows w d (map rank_of people) (names s))

abbrev pub warehouse : Tpcc → ℕ → Drawn (List Row)
warehouse s w = do
  tax ← random 0 2000
  stocks ← over s.items (stock w)
  districts ← over DISTRICTS_EACH (district s w)
  known (row_of table.warehouses (w ∷ []) (pos tax ∷ pos 30000000 ∷ []) ∷ stocks ++ districts)

-- all rows, in the order in which they are drawn
abbrev pub head : Tpcc → Drawn (List Row)
head s = do
  items ← over s.items item
  warehouses ← over s.warehouses (warehouse s)
  known (items ++ warehouses)
