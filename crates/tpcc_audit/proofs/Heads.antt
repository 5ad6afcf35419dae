-- What the rows that order entry begins with come to.
use Rattle.std.proofs.Common.{◌≡◌, refl, ap, sym, subst, ◌∙◌, ℕ, zero, suc, ◌+◌, ◌-◌, ◌*◌, ◌<◌, ◌≤◌, Bool, true, false, ◌&&◌, nat_lt, nat_le, if◌then◌else◌, ℤ, pos, ◌+ℤ◌, arith}
use Rattle.std.proofs.Common.{List, [], ◌∷◌, ◌++◌, map, Option, Some, None}
use Rattle.std.proofs.lemmas.Int.{ints, clamps}
use Rattle.std.specs.List.{range_with_len}
use Rattle.std.specs.Int.{int_max, int_min}
use Rattle.std.specs.Ordering.{int_eq}
use Rattle.rand_pcg.specs.Lcg.{Lcg}
use Rattle.load_gen.specs.Draws.{random}
use Rattle.tpcc_load.specs.declared.settings.Tpcc.{Tpcc}
use Rattle.tpcc_load.specs.Draws.{over}
use Rattle.tpcc_load.specs.Rows.{Row, row_of}
use Rattle.tpcc_load.specs.Heads as heads
use Rattle.tpcc_audit.specs.declared.facts.District.{District}
use Rattle.tpcc_audit.specs.declared.facts.Fact.{Fact}
use Rattle.tpcc_audit.specs.declared.facts.Fact.TheVariants as fact
use Rattle.tpcc_audit.specs.declared.tallies.Tally.{Tally}
use Rattle.tpcc_audit.specs.Facts.{fact_of}
use Rattle.tpcc_audit.specs.Books.{same, greater, lesser, with_order, with_open, with_line, counted, raised, no_tally}
use Rattle.tpcc_audit.proofs.Ranks.{other_fact}
use Rattle.tpcc_audit.proofs.Laid.{after, after-append, after-unseen}
use Rattle.tpcc_audit.proofs.Steps.{count, count-calm, count-commutes, pay, pay-calm, pay-commutes}
use Rattle.tpcc_audit.proofs.Still.{Leaves, after-leaves, zoom, int-self, int-apart, same-self}
use Rattle.tpcc_audit.proofs.Drawn.{Each, each-append, each-over, each-weaker, Unseen, IsOfOrders, district_number, of-orders}
use Rattle.tpcc_audit.proofs.Drawn.{customers_drawn, names_drawn, unseen-items, unseen-stock, unseen-customers, unseen-names}

-- ---- the orders of a district

abbrev pub numbered : Bool → ℕ → Option ℤ
numbered b n = if b then Some (pos n) else None

-- a district with the orders 1 to n, of which those behind the delivered ones are open
pub record IsOrdered (s : Tpcc) (n : ℕ) (t : Tally) : Type 0 where
  pub order : t.greatest_order ≡ numbered (nat_lt 0 n) n
  pub greatest : t.greatest_open ≡ numbered (nat_lt (heads.delivered s) n) n
  pub least : t.least_open ≡ numbered (nat_lt (heads.delivered s) n) (heads.delivered s + 1)
  pub open_ones : t.open_count ≡ n - heads.delivered s
  pub due : t.due ≡ pos t.lines

abbrev pub with_lines : ℕ → Tally → Tally
with_lines n t = record {
  greatest_order = t.greatest_order;
  greatest_open = t.greatest_open;
  least_open = t.least_open;
  open_count = t.open_count;
  due = t.due;
  lines = t.lines + n;
}

abbrev pub ended : Bool → ℕ → Tally → Tally
ended done o t = if done then t else with_open t (pos o)

own : {A : Type 0} (q : District) (x y : A) → (if same q q then x else y) ≡ x
own q x y = ap (λ b. if b then x else y) (same-self q)

no-lines : (t : Tally) → t ≡ with_lines 0 t
no-lines t = let e : t.lines ≡ t.lines + 0 = omega arith in λ i. record {
  greatest_order = t.greatest_order;
  greatest_open = t.greatest_open;
  least_open = t.least_open;
  open_count = t.open_count;
  due = t.due;
  lines = e i;
}

one-line : (n : ℕ) (t : Tally) → with_line (with_lines n t) ≡ with_lines (suc n) t
one-line n t = let e : t.lines + n + 1 ≡ t.lines + suc n = omega arith in λ i. record {
  greatest_order = t.greatest_order;
  greatest_open = t.greatest_open;
  least_open = t.least_open;
  open_count = t.open_count;
  due = t.due;
  lines = e i;
}

lines-after : (s : Tpcc) (w d o n : ℕ) (g : Lcg) (t : Tally)
    → after (count (district_number w d)) (over n (heads.order_line s w d o) g).0 t ≡ with_lines n t
unfolding over
lines-after s w d o zero g t = no-lines t
lines-after s w d o (suc n) g t =
    let q = district_number w d in
    after-append (count q) (over n (heads.order_line s w d o) g).0 (heads.order_line s w d o (n + 1) (over n (heads.order_line s w d o) g).1).0 t
    ∙ ap (count q (fact.Line q)) (lines-after s w d o n g t)
    ∙ own q (with_line (with_lines n t)) (with_lines n t)
    ∙ one-line n t

end-after : (b : Bool) (w d o : ℕ) (t : Tally)
    → after (count (district_number w d)) (if b then [] else row_of 4 (w ∷ d ∷ o ∷ []) [] ∷ []) t ≡ ended b o t
end-after true w d o t = refl
end-after false w d o t = own (district_number w d) (with_open t (pos o)) t

order-after : (s : Tpcc) (w d o : ℕ) (places : List ℕ) (g : Lcg) (t : Tally)
    → (n : ℕ) × (after (count (district_number w d)) (heads.order s w d places o g).0 t
    ≡ ended (nat_le o (heads.delivered s)) o (with_lines n (with_order t (pos o) (pos n))))
order-after s w d o places g t =
    let q = district_number w d in
    let by = heads.carrier (nat_le o (heads.delivered s)) g in
    let lines = random 5 15 by.1 in
    let drawn = over lines.0 (heads.order_line s w d o) lines.1 in
    let done = nat_le o (heads.delivered s) in
    let more = with_order t (pos o) (pos lines.0) in (
      lines.0,
      ap (after (count q) (drawn.0 ++ heads.open_rows s w d o)) (own q more t)
          ∙ after-append (count q) drawn.0 (heads.open_rows s w d o) more
          ∙ ap (after (count q) (heads.open_rows s w d o)) (lines-after s w d o lines.0 lines.1 more)
          ∙ end-after done w d o (with_lines lines.0 more),
    )

max-more : (n : ℕ) → int_max (pos n) (pos (n + 1)) ≡ pos (n + 1)
max-more n = omega (arith, ints, clamps)

min-first : (a n : ℕ) → a < n → int_min (pos (a + 1)) (pos (n + 1)) ≡ pos (a + 1)
min-first a n h = omega (arith, ints, clamps, h)

greater-numbered : (b : Bool) (n : ℕ) → greater (numbered b n) (pos (n + 1)) ≡ Some (pos (n + 1))
greater-numbered true n = ap Some (max-more n)
greater-numbered false n = refl

lesser-numbered : (b : Bool) (a n : ℕ) → nat_lt a n ≡ b → a ≤ n → lesser (numbered b (a + 1)) (pos (n + 1)) ≡ Some (pos (a + 1))
lesser-numbered true a n e h = let less : a < n = grind arith in ap Some (min-first a n less)
lesser-numbered false a n e h = let is : n ≡ a = grind arith in ap (λ m. Some (pos (m + 1))) is

is-true : (b : Bool) (n : ℕ) (x : Option ℤ) → b ≡ true → x ≡ Some (pos n) → x ≡ numbered b n
is-true b n x e h = h ∙ ap (λ c. numbered c n) (sym e)

is-false : (b : Bool) (n : ℕ) → b ≡ false → None ≡ numbered b n
is-false b n e = ap (λ c. numbered c n) (sym e)

plus-lines : (a b : ℕ) (x : ℤ) → x ≡ pos a → x +ℤ pos b ≡ pos (a + b)
plus-lines a b x e = omega (arith, ints, e)

ordered-more : (b : Bool) (s : Tpcc) (n lines : ℕ) (t : Tally) → nat_le (n + 1) (heads.delivered s) ≡ b → IsOrdered s n t
    → IsOrdered s (n + 1) (ended b (n + 1) (with_lines lines (with_order t (pos (n + 1)) (pos lines))))
ordered-more true s n lines t e h =
    let del = heads.delivered s in
    let few : n + 1 ≤ del = grind arith in
    let before : nat_lt del n ≡ false = grind arith in
    let behind : nat_lt del (n + 1) ≡ false = grind arith in
    record {
      order = is-true (nat_lt 0 (n + 1)) (n + 1) _ (grind arith)
          (ap (λ m. greater m (pos (n + 1))) h.order ∙ greater-numbered (nat_lt 0 n) n);
      greatest = h.greatest ∙ ap (λ c. numbered c n) before ∙ is-false (nat_lt del (n + 1)) (n + 1) behind;
      least = h.least ∙ ap (λ c. numbered c (del + 1)) before ∙ is-false (nat_lt del (n + 1)) (del + 1) behind;
      open_ones = h.open_ones ∙ omega (arith, few);
      due = plus-lines t.lines lines t.due h.due;
    }
ordered-more false s n lines t e h =
    let del = heads.delivered s in
    let many : del ≤ n = grind arith in
    let behind : nat_lt del (n + 1) ≡ true = grind arith in
    record {
      order = is-true (nat_lt 0 (n + 1)) (n + 1) _ (grind arith)
          (ap (λ m. greater m (pos (n + 1))) h.order ∙ greater-numbered (nat_lt 0 n) n);
      greatest = is-true (nat_lt del (n + 1)) (n + 1) _ behind
          (ap (λ m. greater m (pos (n + 1))) h.greatest ∙ greater-numbered (nat_lt del n) n);
      least = is-true (nat_lt del (n + 1)) (del + 1) _ behind
          (ap (λ m. lesser m (pos (n + 1))) h.least ∙ lesser-numbered (nat_lt del n) del n refl many);
      open_ones = ap (λ m. m + 1) h.open_ones ∙ omega (arith, many);
      due = plus-lines t.lines lines t.due h.due;
    }

no-orders : (s : Tpcc) → IsOrdered s 0 no_tally
no-orders s =
    let never : nat_lt (heads.delivered s) 0 ≡ false = grind arith in
    record {
      order = refl;
      greatest = is-false (nat_lt (heads.delivered s) 0) 0 never;
      least = is-false (nat_lt (heads.delivered s) 0) (heads.delivered s + 1) never;
      open_ones = omega arith;
      due = refl;
    }

orders-after : (s : Tpcc) (w d : ℕ) (places : List ℕ) (n : ℕ) (g : Lcg)
    → IsOrdered s n (after (count (district_number w d)) (over n (heads.order s w d places) g).0 no_tally)
unfolding over
orders-after s w d places zero g = no-orders s
orders-after s w d places (suc n) g =
    let q = district_number w d in
    let front = over n (heads.order s w d places) g in
    let last = heads.order s w d places (n + 1) front.1 in
    let so_far = after (count q) front.0 no_tally in
    let one = order-after s w d (n + 1) places front.1 so_far in
    let e : n + 1 ≡ suc n = omega arith in
    subst (IsOrdered s (suc n)) (sym (after-append (count q) front.0 last.0 no_tally ∙ one.1))
    (subst (λ m. IsOrdered s m (ended (nat_le (n + 1) (heads.delivered s)) (n + 1) (with_lines one.0 (with_order so_far (pos (n + 1)) (pos one.0))))) e
    (ordered-more (nat_le (n + 1) (heads.delivered s)) s n one.0 so_far refl (orders-after s w d places n g)))

-- ---- districts

district-after : (s : Tpcc) (w d : ℕ) (g : Lcg)
    → IsOrdered s s.customers (after (count (district_number w d)) (heads.district s w d g).0 no_tally)
district-after s w d g =
    let q = district_number w d in
    let tax = random 0 2000 g in
    let people = over s.customers (heads.person s) tax.1 in
    let places = heads.shuffled s.customers (range_with_len 1 s.customers) people.1 in
    let orders = over s.customers (heads.order s w d places.0) places.1 in
    let customers = map (heads.customer_row w d) people.0 in
    let names = heads.name_rows w d (map heads.rank_of people.0) (heads.names s) in
    subst (IsOrdered s s.customers)
    (sym (after-append (count q) (customers ++ orders.0) names no_tally
    ∙ ap (after (count q) names) (after-append (count q) customers orders.0 no_tally
    ∙ ap (after (count q) orders.0) (after-unseen (count q) (count-calm q) (count-commutes q) customers no_tally (unseen-customers s w d tax.1)))
    ∙ after-unseen (count q) (count-calm q) (count-commutes q) names (after (count q) orders.0 no_tally)
    (unseen-names s w d tax.1 (heads.names s))))
    (orders-after s w d places.0 s.customers places.1)

-- rows of one district leave another's tally
of-other : (p q : District) (f : Fact) → same p q ≡ false → IsOfOrders p f → (t : Tally) → counted f q t ≡ t
of-other p q (fact.Warehouse row) differ of t = refl
of-other p q (fact.District row) differ of t = refl
of-other p q (fact.Open at o) differ of t = ap (λ b. if b then with_open t o else t) (ap (λ a. same a q) of ∙ differ)
of-other p q (fact.Order at o l) differ of t = ap (λ b. if b then with_order t o l else t) (ap (λ a. same a q) of ∙ differ)
of-other p q (fact.Line at) differ of t = ap (λ b. if b then with_line t else t) (ap (λ a. same a q) of ∙ differ)
of-other p q fact.Other differ of t = refl

leaves-unseen : (q : District) (rows : List Row) → Unseen rows → Each (Leaves (count q)) rows
leaves-unseen q rows all = each-weaker _ (Leaves (count q)) (λ r h t. ap (λ f. counted f q t) (other_fact r h)) rows all

district-leaves : (s : Tpcc) (w d : ℕ) (q : District) → same (district_number w d) q ≡ false → (g : Lcg)
    → Each (Leaves (count q)) (heads.district s w d g).0
district-leaves s w d q differ g =
    let tax = random 0 2000 g in
    let people = over s.customers (heads.person s) tax.1 in
    let places = heads.shuffled s.customers (range_with_len 1 s.customers) people.1 in
    let orders = over s.customers (heads.order s w d places.0) places.1 in
    let customers = map (heads.customer_row w d) people.0 in
    let names = heads.name_rows w d (map heads.rank_of people.0) (heads.names s) in (
      (λ t. refl),
      each-append (Leaves (count q)) (customers ++ orders.0) names
          (each-append (Leaves (count q)) customers orders.0 (leaves-unseen q customers (unseen-customers s w d tax.1))
          (each-weaker _ (Leaves (count q)) (λ r of. of-other (district_number w d) q (fact_of r) differ of) orders.0
          (of-orders s w d places.0 s.customers places.1)))
          (leaves-unseen q names (unseen-names s w d tax.1 (heads.names s))),
    )

false-left : (x y : Bool) → x ≡ false → (x && y) ≡ false
false-left x y e = ap (λ b. b && y) e

false-right : (x y : Bool) → y ≡ false → (x && y) ≡ false
false-right true y e = e
false-right false y e = refl

other-warehouse : (w d v c : ℕ) → (w ≡ v → ⊥) → same (district_number w d) (district_number v c) ≡ false
other-warehouse w d v c differ = false-left _ _ (int-apart w v differ)

other-district : (w d v c : ℕ) → (d ≡ c → ⊥) → same (district_number w d) (district_number v c) ≡ false
other-district w d v c differ = false-right (int_eq (pos w) (pos v)) _ (int-apart d c differ)

warehouse-leaves : (s : Tpcc) (w : ℕ) (v c : ℕ) → (w ≡ v → ⊥) → (g : Lcg)
    → Each (Leaves (count (district_number v c))) (heads.warehouse s w g).0
warehouse-leaves s w v c differ g =
    let q = district_number v c in
    let tax = random 0 2000 g in
    let stocks = over s.items (heads.stock w) tax.1 in
    let districts = over 10 (heads.district s w) stocks.1 in (
      (λ t. refl),
      each-append (Leaves (count q)) stocks.0 districts.0 (leaves-unseen q stocks.0 (unseen-stock w s.items tax.1))
          (each-over (Leaves (count q)) 10 (heads.district s w)
          (λ k h g. district-leaves s w (k + 1) q (other-warehouse w (k + 1) v c differ) g) stocks.1),
    )

warehouse-after : (s : Tpcc) (w d : ℕ) → d < 10 → (g : Lcg)
    → IsOrdered s s.customers (after (count (district_number w (d + 1))) (heads.warehouse s w g).0 no_tally)
warehouse-after s w d h g =
    let q = district_number w (d + 1) in
    let tax = random 0 2000 g in
    let stocks = over s.items (heads.stock w) tax.1 in
    let districts = over 10 (heads.district s w) stocks.1 in
    subst (IsOrdered s s.customers)
    (sym (after-append (count q) stocks.0 districts.0 no_tally
    ∙ ap (after (count q) districts.0) (after-unseen (count q) (count-calm q) (count-commutes q) stocks.0 no_tally (unseen-stock w s.items tax.1))))
    (zoom (count q) (IsOrdered s s.customers) d (heads.district s w) no_tally
    (λ k differ g. district-leaves s w (k + 1) q (other-district w (k + 1) w (d + 1) (λ e. differ (omega (arith, e)))) g)
    (λ g. district-after s w (d + 1) g) 10 h stocks.1)

pub tally-head : (s : Tpcc) (w d : ℕ) → w < s.warehouses → d < 10 → (g : Lcg)
    → IsOrdered s s.customers (after (count (district_number (w + 1) (d + 1))) (heads.head s g).0 no_tally)
tally-head s w d hw hd g =
    let q = district_number (w + 1) (d + 1) in
    let items = over s.items heads.item g in
    let warehouses = over s.warehouses (heads.warehouse s) items.1 in
    subst (IsOrdered s s.customers)
    (sym (after-append (count q) items.0 warehouses.0 no_tally
    ∙ ap (after (count q) warehouses.0) (after-unseen (count q) (count-calm q) (count-commutes q) items.0 no_tally (unseen-items s.items g))))
    (zoom (count q) (IsOrdered s s.customers) w (heads.warehouse s) no_tally
    (λ k differ g. warehouse-leaves s (k + 1) (w + 1) (d + 1) (λ e. differ (omega (arith, e))) g)
    (λ g. warehouse-after s (w + 1) d hd g) s.warehouses hw items.1)

-- ---- what was paid

of-no-district : (w : ℤ) (p : District) (f : Fact) → IsOfOrders p f → (sum : ℤ) → pay w f sum ≡ sum
of-no-district w p (fact.Warehouse row) of sum = refl
of-no-district w p (fact.District row) of sum = absurd of
of-no-district w p (fact.Open at o) of sum = refl
of-no-district w p (fact.Order at o l) of sum = refl
of-no-district w p (fact.Line at) of sum = refl
of-no-district w p fact.Other of sum = refl

unpaid-unseen : (w : ℤ) (rows : List Row) → Unseen rows → Each (Leaves (pay w)) rows
unpaid-unseen w rows all = each-weaker _ (Leaves (pay w)) (λ r h sum. ap (λ f. pay w f sum) (other_fact r h)) rows all

-- a district's rows but its own
rest-unpaid : (s : Tpcc) (w d : ℕ) (v : ℤ) (drawn : Lcg) (places : List ℕ) (g : Lcg)
    → Each (Leaves (pay v)) (customers_drawn s w d drawn ++ (over s.customers (heads.order s w d places) g).0 ++ names_drawn s w d drawn (heads.names s))
rest-unpaid s w d v drawn places g =
    let orders = over s.customers (heads.order s w d places) g in
    let names = names_drawn s w d drawn (heads.names s) in
    each-append (Leaves (pay v)) (customers_drawn s w d drawn ++ orders.0) names
    (each-append (Leaves (pay v)) (customers_drawn s w d drawn) orders.0
    (unpaid-unseen v (customers_drawn s w d drawn) (unseen-customers s w d drawn))
    (each-weaker _ (Leaves (pay v)) (λ r of. of-no-district v (district_number w d) (fact_of r) of) orders.0 (of-orders s w d places s.customers g)))
    (unpaid-unseen v names (unseen-names s w d drawn (heads.names s)))

district-paid : (s : Tpcc) (w d : ℕ) (v : ℤ) (g : Lcg) (sum : ℤ)
    → after (pay v) (heads.district s w d g).0 sum ≡ raised (pos w) (pos 3000000) v sum
district-paid s w d v g sum =
    let tax = random 0 2000 g in
    let places = heads.shuffled s.customers (range_with_len 1 s.customers) (over s.customers (heads.person s) tax.1).1 in
    after-leaves (pay v) _ (raised (pos w) (pos 3000000) v sum) (rest-unpaid s w d v tax.1 places.0 places.1)

raised-other : (w v : ℕ) (ytd sum : ℤ) → (w ≡ v → ⊥) → raised (pos w) ytd (pos v) sum ≡ sum
raised-other w v ytd sum differ = ap (λ b. if b then sum +ℤ ytd else sum) (int-apart w v differ)

raised-own : (w : ℕ) (ytd sum : ℤ) → raised (pos w) ytd (pos w) sum ≡ sum +ℤ ytd
raised-own w ytd sum = ap (λ b. if b then sum +ℤ ytd else sum) (int-self (pos w))

paid-more-districts : (n : ℕ) → pos (n * 3000000) +ℤ pos 3000000 ≡ pos (suc n * 3000000)
paid-more-districts n = omega (arith, ints)

districts-paid : (s : Tpcc) (w n : ℕ) (g : Lcg) → after (pay (pos w)) (over n (heads.district s w) g).0 (pos 0) ≡ pos (n * 3000000)
unfolding over
districts-paid s w zero g = refl
districts-paid s w (suc n) g =
    let front = over n (heads.district s w) g in
    after-append (pay (pos w)) front.0 (heads.district s w (n + 1) front.1).0 (pos 0)
    ∙ district-paid s w (n + 1) (pos w) front.1 (after (pay (pos w)) front.0 (pos 0))
    ∙ raised-own w (pos 3000000) (after (pay (pos w)) front.0 (pos 0))
    ∙ ap (λ sum. sum +ℤ pos 3000000) (districts-paid s w n g)
    ∙ paid-more-districts n

warehouse-paid : (s : Tpcc) (w : ℕ) (g : Lcg) → after (pay (pos w)) (heads.warehouse s w g).0 (pos 0) ≡ pos 30000000
warehouse-paid s w g =
    let tax = random 0 2000 g in
    let stocks = over s.items (heads.stock w) tax.1 in
    let districts = over 10 (heads.district s w) stocks.1 in
    after-append (pay (pos w)) stocks.0 districts.0 (pos 0)
    ∙ ap (after (pay (pos w)) districts.0)
    (after-unseen (pay (pos w)) (pay-calm (pos w)) (pay-commutes (pos w)) stocks.0 (pos 0) (unseen-stock w s.items tax.1))
    ∙ districts-paid s w 10 stocks.1

district-unpaid : (s : Tpcc) (w d v : ℕ) → (w ≡ v → ⊥) → (g : Lcg) → Each (Leaves (pay (pos v))) (heads.district s w d g).0
district-unpaid s w d v differ g =
    let tax = random 0 2000 g in
    let places = heads.shuffled s.customers (range_with_len 1 s.customers) (over s.customers (heads.person s) tax.1).1 in
    ((λ sum. raised-other w v (pos 3000000) sum differ), rest-unpaid s w d (pos v) tax.1 places.0 places.1)

warehouse-unpaid : (s : Tpcc) (w v : ℕ) → (w ≡ v → ⊥) → (g : Lcg) → Each (Leaves (pay (pos v))) (heads.warehouse s w g).0
warehouse-unpaid s w v differ g =
    let tax = random 0 2000 g in
    let stocks = over s.items (heads.stock w) tax.1 in
    let districts = over 10 (heads.district s w) stocks.1 in (
      (λ sum. refl),
      each-append (Leaves (pay (pos v))) stocks.0 districts.0 (unpaid-unseen (pos v) stocks.0 (unseen-stock w s.items tax.1))
          (each-over (Leaves (pay (pos v))) 10 (heads.district s w) (λ k h g. district-unpaid s w (k + 1) v differ g) stocks.1),
    )

pub paid-head : (s : Tpcc) (w : ℕ) → w < s.warehouses → (g : Lcg) → after (pay (pos (w + 1))) (heads.head s g).0 (pos 0) ≡ pos 30000000
paid-head s w h g =
    let v = pos (w + 1) in
    let items = over s.items heads.item g in
    let warehouses = over s.warehouses (heads.warehouse s) items.1 in
    after-append (pay v) items.0 warehouses.0 (pos 0)
    ∙ ap (after (pay v) warehouses.0) (after-unseen (pay v) (pay-calm v) (pay-commutes v) items.0 (pos 0) (unseen-items s.items g))
    ∙ zoom (pay v) (λ sum. sum ≡ pos 30000000) w (heads.warehouse s) (pos 0)
    (λ k differ g. warehouse-unpaid s (k + 1) (w + 1) (λ e. differ (omega (arith, e))) g)
    (λ g. warehouse-paid s (w + 1) g) s.warehouses h items.1
