-- What the rows of a warehouse's districts, and of a district's orders, come to; and what the books say of them.
use Rattle.std.specs.Prelude.{◌≡◌, ◌≤◌, ◌<◌, ℕ, ◌+◌, ◌*◌, ◌^◌, ℤ, pos, ◌+ℤ◌, neg_ℤ, ◌≤ℤ◌, ◌&&◌, Bool, if◌then◌else◌}
use Rattle.std.specs.Prelude.{List, [], ◌∷◌, ◌++◌, length, Option, Some, None}
use Rattle.std.specs.List.{filter_map, fold}
use Rattle.std.specs.Int.{int_max, int_min}
use Rattle.std.specs.Ordering.{int_eq, int_cmp, ordering_then}
use Rattle.std.specs.declared.cmp.Ordering.{Ordering}
use Rattle.std.specs.BTreeMap as tree
use Rattle.tpcc_audit.specs.declared.books.Books.{Books}
use Rattle.tpcc_audit.specs.declared.facts.District.{District}
use Rattle.tpcc_audit.specs.declared.facts.DistrictRow.{DistrictRow}
use Rattle.tpcc_audit.specs.declared.facts.WarehouseRow.{WarehouseRow}
use Rattle.tpcc_audit.specs.declared.facts.Fact.{Fact}
use Rattle.tpcc_audit.specs.declared.facts.Fact.TheVariants as fact
use Rattle.tpcc_audit.specs.declared.tallies.Tally.{Tally}

-- ---- numbers of a list

abbrev pub total : List ℤ → ℤ
total [] = pos 0
total (x ∷ xs) = x +ℤ total xs

abbrev pub greatest : List ℤ → Option ℤ
greatest [] = None
greatest (x ∷ xs) = Some (fold int_max x xs)

abbrev pub least : List ℤ → Option ℤ
least [] = None
least (x ∷ xs) = Some (fold int_min x xs)

-- ---- warehouses and districts

abbrev pub warehouse_row : Fact → Option WarehouseRow
warehouse_row (fact.Warehouse row) = Some row
warehouse_row (fact.District row) = None
warehouse_row (fact.Open at order) = None
warehouse_row (fact.Order at order lines) = None
warehouse_row (fact.Line at) = None
warehouse_row fact.Other = None

abbrev pub district_row : Fact → Option DistrictRow
district_row (fact.Warehouse row) = None
district_row (fact.District row) = Some row
district_row (fact.Open at order) = None
district_row (fact.Order at order lines) = None
district_row (fact.Line at) = None
district_row fact.Other = None

abbrev pub warehouses : List Fact → List WarehouseRow
warehouses told = filter_map warehouse_row told

abbrev pub districts : List Fact → List DistrictRow
districts told = filter_map district_row told

-- what was paid to a district, if it is one of this warehouse
abbrev pub paid_within : ℤ → Fact → Option ℤ
paid_within w (fact.Warehouse row) = None
paid_within w (fact.District row) = if int_eq row.at.w w then Some row.ytd else None
paid_within w (fact.Open at order) = None
paid_within w (fact.Order at order lines) = None
paid_within w (fact.Line at) = None
paid_within w fact.Other = None

-- what was paid to all districts of a warehouse
abbrev pub paid_to : ℤ → List Fact → ℤ
paid_to w told = total (filter_map (paid_within w) told)

-- ---- the orders of a district

abbrev pub same : District → District → Bool
same at q = int_eq at.w q.w && int_eq at.d q.d

-- the number of an order, if it is one of this district
abbrev pub order_of : District → Fact → Option ℤ
order_of q (fact.Warehouse row) = None
order_of q (fact.District row) = None
order_of q (fact.Open at order) = None
order_of q (fact.Order at order lines) = if same at q then Some order else None
order_of q (fact.Line at) = None
order_of q fact.Other = None

-- how many lines it says that it has
abbrev pub due_of : District → Fact → Option ℤ
due_of q (fact.Warehouse row) = None
due_of q (fact.District row) = None
due_of q (fact.Open at order) = None
due_of q (fact.Order at order lines) = if same at q then Some lines else None
due_of q (fact.Line at) = None
due_of q fact.Other = None

-- the number of an order that is open
abbrev pub open_of : District → Fact → Option ℤ
open_of q (fact.Warehouse row) = None
open_of q (fact.District row) = None
open_of q (fact.Open at order) = if same at q then Some order else None
open_of q (fact.Order at order lines) = None
open_of q (fact.Line at) = None
open_of q fact.Other = None

-- a line of an order
abbrev pub line_of : District → Fact → Option District
line_of q (fact.Warehouse row) = None
line_of q (fact.District row) = None
line_of q (fact.Open at order) = None
line_of q (fact.Order at order lines) = None
line_of q (fact.Line at) = if same at q then Some at else None
line_of q fact.Other = None

-- what the rows of a district come to
abbrev pub tally_of : District → List Fact → Tally
tally_of q told = record {
  greatest_order = greatest (filter_map (order_of q) told);
  greatest_open = greatest (filter_map (open_of q) told);
  least_open = least (filter_map (open_of q) told);
  open_count = length (filter_map (open_of q) told);
  due = total (filter_map (due_of q) told);
  lines = length (filter_map (line_of q) told);
}

-- ---- books

abbrev pub district_cmp : District → District → Ordering
district_cmp a b = ordering_then (int_cmp a.w b.w) (int_cmp a.d b.d)

abbrev pub no_tally : Tally
no_tally = record { greatest_order = None; greatest_open = None; least_open = None; open_count = 0; due = pos 0; lines = 0 }

abbrev pub or_none : Option Tally → Tally
or_none (Some tally) = tally
or_none None = no_tally

abbrev pub tally_in : tree.BTreeMap District Tally → District → Tally
tally_in tallies q = or_none (tree.get district_cmp tallies q)

abbrev pub or_nothing : Option ℤ → ℤ
or_nothing (Some sum) = sum
or_nothing None = pos 0

abbrev pub paid_in : tree.BTreeMap ℤ ℤ → ℤ → ℤ
paid_in paid w = or_nothing (tree.get int_cmp paid w)

-- the books say what these facts come to
pub record Keeps (kept : Books) (told : List Fact) : Type 0 where
  pub warehouses : kept.warehouses.items ≡ warehouses told
  pub districts : kept.districts.items ≡ districts told
  pub paid : (w : ℤ) → paid_in kept.paid w ≡ paid_to w told
  pub tallies : (q : District) → tally_in kept.tallies q ≡ tally_of q told

-- ---- one fact more

abbrev pub greater : Option ℤ → ℤ → Option ℤ
greater (Some most) x = Some (int_max most x)
greater None x = Some x

abbrev pub lesser : Option ℤ → ℤ → Option ℤ
lesser (Some low) x = Some (int_min low x)
lesser None x = Some x

abbrev pub with_order : Tally → ℤ → ℤ → Tally
with_order t order lines = record {
  greatest_order = greater t.greatest_order order;
  greatest_open = t.greatest_open;
  least_open = t.least_open;
  open_count = t.open_count;
  due = t.due +ℤ lines;
  lines = t.lines;
}

abbrev pub with_open : Tally → ℤ → Tally
with_open t order = record {
  greatest_order = t.greatest_order;
  greatest_open = greater t.greatest_open order;
  least_open = lesser t.least_open order;
  open_count = t.open_count + 1;
  due = t.due;
  lines = t.lines;
}

abbrev pub with_line : Tally → Tally
with_line t = record {
  greatest_order = t.greatest_order;
  greatest_open = t.greatest_open;
  least_open = t.least_open;
  open_count = t.open_count;
  due = t.due;
  lines = t.lines + 1;
}

-- what is at q, once this tally is set at a district
abbrev pub set_at : District → Tally → District → Tally → Tally
set_at at tally q before = if same at q then tally else before

-- the tally of q after a fact
abbrev pub counted : Fact → District → Tally → Tally
counted (fact.Warehouse row) q t = t
counted (fact.District row) q t = t
counted (fact.Open at order) q t = set_at at (with_open t order) q t
counted (fact.Order at order lines) q t = set_at at (with_order t order lines) q t
counted (fact.Line at) q t = set_at at (with_line t) q t
counted fact.Other q t = t

-- what was paid to the districts of q, after this was paid to one of w
abbrev pub raised : ℤ → ℤ → ℤ → ℤ → ℤ
raised w ytd q sum = if int_eq w q then sum +ℤ ytd else sum

-- what was paid to the districts of q, after a fact
abbrev pub paid_behind : ℤ → Fact → ℤ → ℤ
paid_behind q (fact.Warehouse row) sum = sum
paid_behind q (fact.District row) sum = raised row.at.w row.ytd q sum
paid_behind q (fact.Open at order) sum = sum
paid_behind q (fact.Order at order lines) sum = sum
paid_behind q (fact.Line at) sum = sum
paid_behind q fact.Other sum = sum

abbrev pub with_found : {X : Type 0} → List X → Option X → List X
with_found xs None = xs
with_found xs (Some x) = xs ++ x ∷ []

-- the books after a fact
pub record IsNoted (before : Books) (f : Fact) (after : Books) : Type 0 where
  pub warehouses : after.warehouses.items ≡ with_found before.warehouses.items (warehouse_row f)
  pub districts : after.districts.items ≡ with_found before.districts.items (district_row f)
  pub paid : (q : ℤ) → paid_in after.paid q ≡ paid_behind q f (paid_in before.paid q)
  pub tallies : (q : District) → tally_in after.tallies q ≡ counted f q (tally_in before.tallies q)

-- ---- no number grows too large

-- no further from 0 than this
abbrev pub IsUpTo : ℕ → ℤ → Type 0
IsUpTo n z = (neg_ℤ (pos n) ≤ℤ z) × (z ≤ℤ pos n)

abbrev pub IsModerate : ℤ → Type 0
IsModerate z = IsUpTo (2 ^ 126) z

abbrev pub HasRoom : Tally → Type 0
HasRoom t = (t.open_count < 2 ^ 63) × (t.lines < 2 ^ 63) × IsModerate t.due

pub record IsRoomy (kept : Books) : Type 0 where
  pub paid : (w : ℤ) → IsModerate (paid_in kept.paid w)
  pub tallies : (q : District) → HasRoom (tally_in kept.tallies q)

-- the tally after so many rows at most
abbrev pub IsWithin : ℕ → Tally → Type 0
IsWithin n t = (t.open_count ≤ n) × (t.lines ≤ n) × IsUpTo (n * 2 ^ 63) t.due

-- the books after so many rows at most
pub record IsBounded (n : ℕ) (kept : Books) : Type 0 where
  pub paid : (w : ℤ) → IsUpTo (n * 2 ^ 63) (paid_in kept.paid w)
  pub tallies : (q : District) → IsWithin n (tally_in kept.tallies q)
