-- Of each head that order entry begins with the audit holds.
use Rattle.std.proofs.Common.{◌≡◌, refl, ap, sym, subst, ◌∙◌, ℕ, ◌+◌, ◌-◌, ◌<◌, ◌≤◌, Bool, true, nat_lt, if◌then◌else◌, ℤ, pos, ◌+ℤ◌, ◌-ℤ◌, arith}
use Rattle.std.proofs.Common.{List, [], ◌∷◌, ◌++◌, map, Some}
use Rattle.std.proofs.lemmas.Int.{ints}
use Rattle.std.specs.Prelude.{⊤}
use Rattle.std.specs.List.{AllByRecursion, filter_map, range_with_len}
use Rattle.std.specs.List.Sorted.{IsStrictlySortedBy}
use Rattle.std.specs.Ordering.{int_eq}
use Rattle.std.specs.FinMap as fin
use Rattle.rand_pcg.specs.Lcg.{Lcg}
use Rattle.aria_base.specs.Orders.{key_cmp, Cells, Database}
use Rattle.load_gen.specs.Draws.{random}
use Rattle.aria_base.proofs.Trees.{entries-is}
use Rattle.tpcc_load.specs.declared.settings.Tpcc.{Tpcc}
use Rattle.tpcc_load.specs.Draws.{over}
use Rattle.tpcc_load.specs.Rows.{Row, laid}
use Rattle.tpcc_load.specs.Heads as heads
use Rattle.tpcc_audit.specs.declared.conditions.Condition.{Condition}
use Rattle.tpcc_audit.specs.declared.conditions.Condition.TheVariants as condition
use Rattle.tpcc_audit.specs.declared.facts.District.{District}
use Rattle.tpcc_audit.specs.declared.facts.DistrictRow.{DistrictRow}
use Rattle.tpcc_audit.specs.declared.facts.WarehouseRow.{WarehouseRow}
use Rattle.tpcc_audit.specs.declared.facts.Fact.{Fact}
use Rattle.tpcc_audit.specs.declared.facts.Fact.TheVariants as fact
use Rattle.tpcc_audit.specs.declared.findings.Audit.{Audit}
use Rattle.tpcc_audit.specs.declared.findings.Audit.TheVariants.{Holds, Fails}
use Rattle.tpcc_audit.specs.declared.tallies.Tally.{Tally}
use Rattle.tpcc_audit.specs.Facts.{fact_of, facts_of}
use Rattle.tpcc_audit.specs.Books.{warehouse_row, district_row, paid_to, tally_of, or_nothing, no_tally}
use Rattle.tpcc_audit.specs.Conditions.{first, either, compared, amount, numbers, agrees_if_any, span, gaps, lines, at_district, at_districts, at_warehouses, audited}
use Rattle.tpcc_audit.proofs.Ranks.{other_fact, place, IsAbsentFrom}
use Rattle.tpcc_audit.proofs.Laid.{after, after-laid, each-laid}
use Rattle.tpcc_audit.proofs.Steps.{count, count-calm, count-commutes, pay, pay-calm, pay-commutes, tally-after, paid-after}
use Rattle.tpcc_audit.proofs.Still.{int-self}
use Rattle.tpcc_audit.proofs.Drawn.{Each, each-append, each-over, each-weaker, Unseen, IsOfOrders, district_number, of-orders, rises-head}
use Rattle.tpcc_audit.proofs.Drawn.{customers_drawn, names_drawn, unseen-items, unseen-stock, unseen-customers, unseen-names}
use Rattle.tpcc_audit.proofs.Heads.{IsOrdered, numbered, tally-head, paid-head}

-- ---- the rows of warehouses and districts

abbrev pub district_row_of : Tpcc → ℕ → ℕ → DistrictRow
district_row_of s w d = record { at = district_number w d; ytd = pos 3000000; next = pos (s.customers + 1) }

abbrev pub warehouse_row_of : ℕ → WarehouseRow
warehouse_row_of w = record { w = pos w; ytd = pos 30000000 }

-- a warehouse or a district, if it is told of one, is one of the head's
abbrev pub IsProper : Tpcc → Fact → Type 0
IsProper s (fact.Warehouse row) = (w : ℕ) × (w < s.warehouses) × (row ≡ warehouse_row_of (w + 1))
IsProper s (fact.District row) = (w : ℕ) × (d : ℕ) × (w < s.warehouses) × (d < 10) × (row ≡ district_row_of s (w + 1) (d + 1))
IsProper s (fact.Open at order) = ⊤
IsProper s (fact.Order at order lines) = ⊤
IsProper s (fact.Line at) = ⊤
IsProper s fact.Other = ⊤

proper-of-orders : (s : Tpcc) (q : District) (f : Fact) → IsOfOrders q f → IsProper s f
proper-of-orders s q (fact.Warehouse row) of = absurd of
proper-of-orders s q (fact.District row) of = absurd of
proper-of-orders s q (fact.Open at order) of = tt
proper-of-orders s q (fact.Order at order lines) of = tt
proper-of-orders s q (fact.Line at) of = tt
proper-of-orders s q fact.Other of = tt

abbrev pub ProperRow : Tpcc → Row → Type 0
ProperRow s r = IsProper s (fact_of r)

proper-unseen : (s : Tpcc) (rows : List Row) → Unseen rows → Each (ProperRow s) rows
proper-unseen s rows all = each-weaker _ (ProperRow s) (λ r h. subst (IsProper s) (sym (other_fact r h)) tt) rows all

proper-rest : (s : Tpcc) (w d : ℕ) (drawn : Lcg) (places : List ℕ) (g : Lcg)
    → Each (ProperRow s) (customers_drawn s w d drawn ++ (over s.customers (heads.order s w d places) g).0 ++ names_drawn s w d drawn (heads.names s))
proper-rest s w d drawn places g =
    let orders = over s.customers (heads.order s w d places) g in
    let names = names_drawn s w d drawn (heads.names s) in
    each-append (ProperRow s) (customers_drawn s w d drawn ++ orders.0) names
    (each-append (ProperRow s) (customers_drawn s w d drawn) orders.0
    (proper-unseen s (customers_drawn s w d drawn) (unseen-customers s w d drawn))
    (each-weaker _ (ProperRow s) (λ r of. proper-of-orders s (district_number w d) (fact_of r) of) orders.0 (of-orders s w d places s.customers g)))
    (proper-unseen s names (unseen-names s w d drawn (heads.names s)))

proper-district : (s : Tpcc) (w d : ℕ) → w < s.warehouses → d < 10 → (g : Lcg) → Each (ProperRow s) (heads.district s (w + 1) (d + 1) g).0
proper-district s w d hw hd g =
    let tax = random 0 2000 g in
    let places = heads.shuffled s.customers (range_with_len 1 s.customers) (over s.customers (heads.person s) tax.1).1 in
    ((w, d, hw, hd, refl), proper-rest s (w + 1) (d + 1) tax.1 places.0 places.1)

proper-warehouse : (s : Tpcc) (w : ℕ) → w < s.warehouses → (g : Lcg) → Each (ProperRow s) (heads.warehouse s (w + 1) g).0
proper-warehouse s w h g =
    let tax = random 0 2000 g in
    let stocks = over s.items (heads.stock (w + 1)) tax.1 in
    let districts = over 10 (heads.district s (w + 1)) stocks.1 in (
      (w, h, refl),
      each-append (ProperRow s) stocks.0 districts.0 (proper-unseen s stocks.0 (unseen-stock (w + 1) s.items tax.1))
          (each-over (ProperRow s) 10 (heads.district s (w + 1)) (λ d hd g. proper-district s w d h hd g) stocks.1),
    )

proper-head : (s : Tpcc) (g : Lcg) → Each (ProperRow s) (heads.head s g).0
proper-head s g =
    let items = over s.items heads.item g in
    each-append (ProperRow s) items.0 (over s.warehouses (heads.warehouse s) items.1).0
    (proper-unseen s items.0 (unseen-items s.items g))
    (each-over (ProperRow s) s.warehouses (heads.warehouse s) (λ w h g. proper-warehouse s w h g) items.1)

-- ---- the rows as they are laid

absent-empty : IsAbsentFrom 0 fin.empty
absent-empty q seen above = fin.get-empty key_cmp q

nothing-rises : IsStrictlySortedBy key_cmp []
unfolding IsStrictlySortedBy
nothing-rises = tt

no-entries : fin.entries (fin.empty {X = Cells} {R = key_cmp}) ≡ []
no-entries = entries-is fin.empty [] nothing-rises (fin.get-empty key_cmp)

abbrev pub head_of : Tpcc → Lcg → Database
head_of s g = laid fin.empty (heads.head s g).0

each-in-head : (s : Tpcc) (g : Lcg) → Each (ProperRow s) (fin.entries (head_of s g))
each-in-head s g = each-laid (IsProper s) (heads.head s g).0 fin.empty (proper-head s g) (subst (Each (ProperRow s)) (sym no-entries) tt)

tally-in-head : (s : Tpcc) (w d : ℕ) → s.customers ≤ 3000 → w < s.warehouses → d < 10 → (g : Lcg)
    → IsOrdered s s.customers (tally_of (district_number (w + 1) (d + 1)) (facts_of (head_of s g)))
tally-in-head s w d few hw hd g =
    let q = district_number (w + 1) (d + 1) in
    subst (IsOrdered s s.customers)
    (sym (tally-after q (fin.entries (head_of s g))
    ∙ after-laid (count q) (count-calm q) (count-commutes q) (heads.head s g).0 fin.empty 0 (place (s.warehouses + 1) 0 0 0) no_tally
    absent-empty (rises-head s few g)
    ∙ ap (λ es. after (count q) (heads.head s g).0 (after (count q) es no_tally)) no-entries))
    (tally-head s w d hw hd g)

paid-in-head : (s : Tpcc) (w : ℕ) → s.customers ≤ 3000 → w < s.warehouses → (g : Lcg)
    → paid_to (pos (w + 1)) (facts_of (head_of s g)) ≡ pos 30000000
paid-in-head s w few h g =
    let v = pos (w + 1) in
    paid-after v (fin.entries (head_of s g))
    ∙ after-laid (pay v) (pay-calm v) (pay-commutes v) (heads.head s g).0 fin.empty 0 (place (s.warehouses + 1) 0 0 0) (pos 0)
    absent-empty (rises-head s few g)
    ∙ ap (λ es. after (pay v) (heads.head s g).0 (after (pay v) es (pos 0))) no-entries
    ∙ paid-head s w h g

-- ---- the conditions

abbrev pub AllHold : List Audit → Type 0
AllHold found = AllByRecursion (λ a. a ≡ Holds) found

first-of : (found : List Audit) → AllHold found → first found ≡ Holds
first-of [] all = refl
first-of (a ∷ more) all = ap (λ b. either b (first more)) all.0 ∙ first-of more all.1

hold-append : (xs ys : List Audit) → AllHold xs → AllHold ys → AllHold (xs ++ ys)
hold-append [] ys first second = second
hold-append (x ∷ xs) ys first second = (first.0, hold-append xs ys first.1 second)

agree : (n : ℕ) (at : District) (wanted found : ℤ) → wanted ≡ found → compared n at wanted found ≡ Holds
agree n at wanted found e =
    ap (λ x. if int_eq x found then Holds else Fails n at.w at.d x found) e
    ∙ ap (λ b. if b then Holds else Fails n at.w at.d found found) (int-self found)

some-true : (b : Bool) (n : ℕ) → b ≡ true → numbered b n ≡ Some (pos n)
some-true b n e = ap (λ c. numbered c n) e

one-less : (n : ℕ) → pos (n + 1) -ℤ pos 1 ≡ pos n
one-less n = omega (arith, ints)

span-of : (n del : ℕ) → del < n → pos n -ℤ pos (del + 1) +ℤ pos 1 ≡ pos (n - del)
span-of n del h = omega (arith, ints, h)

module _ (s : Tpcc) (within : heads.IsWithin s) (w d : ℕ) (t : Tally) (o : IsOrdered s s.customers t) where
  abbrev pub row : DistrictRow
  row = district_row_of s w d

  some-left : nat_lt (heads.delivered s) s.customers ≡ true
  some-left = let many = within.customers.0 in grind (arith, many)

  some-order : nat_lt 0 s.customers ≡ true
  some-order = let many = within.customers.0 in grind (arith, many)

  greatest-left : t.greatest_open ≡ Some (pos s.customers)
  greatest-left = o.greatest ∙ some-true (nat_lt (heads.delivered s) s.customers) s.customers some-left

  numbers-hold : numbers row t ≡ Holds
  numbers-hold =
      let wanted = pos (s.customers + 1) -ℤ pos 1 in
      let last : or_nothing t.greatest_order ≡ pos s.customers = ap or_nothing (o.order ∙ some-true (nat_lt 0 s.customers) s.customers some-order) in
      ap (λ a. either a (agrees_if_any 2 row.at wanted t.greatest_open)) (agree 2 row.at wanted (or_nothing t.greatest_order) (one-less s.customers ∙ sym last))
      ∙ ap (agrees_if_any 2 row.at wanted) greatest-left
      ∙ agree 2 row.at wanted (pos s.customers) (one-less s.customers)

  gaps-hold : gaps row t ≡ Holds
  gaps-hold =
      let del = heads.delivered s in
      let least : t.least_open ≡ Some (pos (del + 1)) = o.least ∙ some-true (nat_lt del s.customers) (del + 1) some-left in
      let below : del < s.customers = let many = within.customers.0 in grind (arith, many) in
      (λ i. span row t.open_count (least i) (greatest-left i))
      ∙ agree 3 row.at (pos s.customers -ℤ pos (del + 1) +ℤ pos 1) (pos t.open_count) (span-of s.customers del below ∙ ap pos (sym o.open_ones))

  lines-hold : lines row t ≡ Holds
  lines-hold = agree 4 row.at t.due (pos t.lines) o.due

  pub condition-holds : (c : Condition) → at_district c row t ≡ Holds
  condition-holds condition.Numbers = numbers-hold
  condition-holds condition.Gaps = gaps-hold
  condition-holds condition.Lines = lines-hold

module _ (s : Tpcc) (within : heads.IsWithin s) (g : Lcg) where
  hold-district : (c : Condition) (row : DistrictRow) → IsProper s (fact.District row) → at_district c row (tally_of row.at (facts_of (head_of s g))) ≡ Holds
  hold-district c row (w, d, hw, hd, is) =
      ap (λ r. at_district c r (tally_of r.at (facts_of (head_of s g)))) is
      ∙ condition-holds s within (w + 1) (d + 1) _ (tally-in-head s w d within.customers.1 hw hd g) c

  hold-warehouse : (row : WarehouseRow) → IsProper s (fact.Warehouse row) → amount row (paid_to row.w (facts_of (head_of s g))) ≡ Holds
  hold-warehouse row (w, h, is) =
      ap (λ r. amount r (paid_to r.w (facts_of (head_of s g)))) is
      ∙ agree 1 (record { w = pos (w + 1); d = pos 0 }) _ _ (paid-in-head s w within.customers.1 h g)

  district-found : (c : Condition) (f : Fact) (fs : List Fact) → IsProper s f
      → AllHold (map (λ row. at_district c row (tally_of row.at (facts_of (head_of s g)))) (filter_map district_row fs))
      → AllHold (map (λ row. at_district c row (tally_of row.at (facts_of (head_of s g)))) (filter_map district_row (f ∷ fs)))
  district-found c (fact.Warehouse row) fs p rest = rest
  district-found c (fact.District row) fs p rest = (hold-district c row p, rest)
  district-found c (fact.Open at order) fs p rest = rest
  district-found c (fact.Order at order lines) fs p rest = rest
  district-found c (fact.Line at) fs p rest = rest
  district-found c fact.Other fs p rest = rest

  districts-hold : (c : Condition) (rows : List Row) → Each (ProperRow s) rows
      → AllHold (map (λ row. at_district c row (tally_of row.at (facts_of (head_of s g)))) (filter_map district_row (map fact_of rows)))
  districts-hold c [] all = tt
  districts-hold c (r ∷ rs) all = district-found c (fact_of r) (map fact_of rs) all.0 (districts-hold c rs all.1)

  warehouse-found : (f : Fact) (fs : List Fact) → IsProper s f
      → AllHold (map (λ row. amount row (paid_to row.w (facts_of (head_of s g)))) (filter_map warehouse_row fs))
      → AllHold (map (λ row. amount row (paid_to row.w (facts_of (head_of s g)))) (filter_map warehouse_row (f ∷ fs)))
  warehouse-found (fact.Warehouse row) fs p rest = (hold-warehouse row p, rest)
  warehouse-found (fact.District row) fs p rest = rest
  warehouse-found (fact.Open at order) fs p rest = rest
  warehouse-found (fact.Order at order lines) fs p rest = rest
  warehouse-found (fact.Line at) fs p rest = rest
  warehouse-found fact.Other fs p rest = rest

  warehouses-hold : (rows : List Row) → Each (ProperRow s) rows
      → AllHold (map (λ row. amount row (paid_to row.w (facts_of (head_of s g)))) (filter_map warehouse_row (map fact_of rows)))
  warehouses-hold [] all = tt
  warehouses-hold (r ∷ rs) all = warehouse-found (fact_of r) (map fact_of rs) all.0 (warehouses-hold rs all.1)

  pub head-holds : audited (head_of s g) ≡ Holds
  head-holds =
      let rows = fin.entries (head_of s g) in
      let all = each-in-head s g in
      let amounts = at_warehouses (facts_of (head_of s g)) in
      let numbers = at_districts condition.Numbers (facts_of (head_of s g)) in
      let open_numbers = at_districts condition.Gaps (facts_of (head_of s g)) in
      first-of _ (hold-append (amounts ++ numbers ++ open_numbers) _
      (hold-append (amounts ++ numbers) _
      (hold-append amounts _ (warehouses-hold rows all) (districts-hold condition.Numbers rows all))
      (districts-hold condition.Gaps rows all))
      (districts-hold condition.Lines rows all))
