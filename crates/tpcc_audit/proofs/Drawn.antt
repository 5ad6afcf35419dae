-- The rows that order entry begins with: the order of their keys as they are drawn, and what each row tells.
use Rattle.std.proofs.Common.{◌≡◌, refl, subst, ℕ, zero, suc, ◌+◌, ◌<◌, ◌≤◌, Bool, true, false, nat_le, if◌then◌else◌, pos, arith}
use Rattle.std.proofs.Common.{List, [], ◌∷◌, ◌++◌, map}
use Rattle.std.specs.Prelude.{⊤}
use Rattle.std.specs.List.{AllByRecursion, range_with_len}
use Rattle.rand_pcg.specs.Lcg.{Lcg}
use Rattle.load_gen.specs.Draws.{Drawn, random}
use Rattle.tpcc_load.specs.declared.settings.Tpcc.{Tpcc}
use Rattle.tpcc_load.specs.Draws.{over}
use Rattle.tpcc_load.specs.Rows.{Row, row_of}
use Rattle.tpcc_load.specs.Heads as heads
use Rattle.tpcc_audit.specs.declared.facts.District.{District}
use Rattle.tpcc_audit.specs.declared.facts.Fact.{Fact}
use Rattle.tpcc_audit.specs.declared.facts.Fact.TheVariants as fact
use Rattle.tpcc_audit.specs.Facts.{fact_of}
use Rattle.tpcc_audit.proofs.Ranks.{is_seen, place, Rises, rises-append, rises-unseen, rises-from, rises-to}

-- ---- lists of rows

abbrev pub Each : (Row → Type 0) → List Row → Type 0
Each P rows = AllByRecursion P rows

pub each-append : (P : Row → Type 0) (xs ys : List Row) → Each P xs → Each P ys → Each P (xs ++ ys)
each-append P [] ys first second = second
each-append P (x ∷ xs) ys first second = (first.0, each-append P xs ys first.1 second)

pub each-weaker : (P Q : Row → Type 0) → ((r : Row) → P r → Q r) → (rows : List Row) → Each P rows → Each Q rows
each-weaker P Q f [] all = tt
each-weaker P Q f (r ∷ rs) all = (f r all.0, each-weaker P Q f rs all.1)

pub each-over : (P : Row → Type 0) (n : ℕ) (d : ℕ → Drawn (List Row)) → ((k : ℕ) → k < n → (g : Lcg) → Each P (d (k + 1) g).0)
    → (g : Lcg) → Each P (over n d g).0
unfolding over
each-over P zero d one g = tt
each-over P (suc n) d one g =
    each-append P (over n d g).0 (d (n + 1) (over n d g).1).0
    (each-over P n d (λ k h. one k (omega (arith, h))) g) (one n (omega arith) (over n d g).1)

pub rises-over : (at : ℕ → ℕ) (n : ℕ) (d : ℕ → Drawn (List Row)) → ((k : ℕ) → k < n → (g : Lcg) → Rises (at k) (d (k + 1) g).0 (at (k + 1)))
    → (g : Lcg) → Rises (at 0) (over n d g).0 (at n)
unfolding over
rises-over at zero d one g = omega arith
rises-over at (suc n) d one g =
    let e : n + 1 ≡ suc n = omega arith in
    rises-append (over n d g).0 (d (n + 1) (over n d g).1).0 (at 0) (at n) (at (suc n))
    (rises-over at n d (λ k h. one k (omega (arith, h))) g)
    (subst (λ m. Rises (at n) (d (n + 1) (over n d g).1).0 (at m)) e (one n (omega arith) (over n d g).1))

-- ---- rows that no audit looks at

abbrev pub Unseen : List Row → Type 0
Unseen rows = Each (λ r. is_seen r.0 ≡ false) rows

pub unseen-items : (n : ℕ) (g : Lcg) → Unseen (over n heads.item g).0
unseen-items n g = each-over (λ r. is_seen r.0 ≡ false) n heads.item (λ k h g. (refl, tt)) g

pub unseen-stock : (w n : ℕ) (g : Lcg) → Unseen (over n (heads.stock w) g).0
unseen-stock w n g = each-over (λ r. is_seen r.0 ≡ false) n (heads.stock w) (λ k h g. (refl, tt)) g

-- each of some rows, made by one function
unseen-map : {X : Type 0} (row : X → Row) → ((x : X) → is_seen (row x).0 ≡ false) → (xs : List X) → Unseen (map row xs)
unseen-map row one [] = tt
unseen-map row one (x ∷ xs) = (one x, unseen-map row one xs)

-- rows that are made of a list, by whether it is empty
unseen-cases : {X : Type 0} (rows : List X → List Row) → Unseen (rows []) → ((x : X) (xs : List X) → Unseen (rows (x ∷ xs))) → (xs : List X) → Unseen (rows xs)
unseen-cases rows none some [] = none
unseen-cases rows none some (x ∷ xs) = some x xs

-- the rows of a district's customers, who are drawn from here, and of their first names, so many
abbrev pub customers_drawn : Tpcc → ℕ → ℕ → Lcg → List Row
customers_drawn s w d g = map (heads.customer_row w d) (over s.customers (heads.person s) g).0

abbrev pub names_drawn : Tpcc → ℕ → ℕ → Lcg → ℕ → List Row
names_drawn s w d g n = heads.name_rows w d (map heads.rank_of (over s.customers (heads.person s) g).0) n

pub unseen-customers : (s : Tpcc) (w d : ℕ) (g : Lcg) → Unseen (customers_drawn s w d g)
unseen-customers s w d g = unseen-map (heads.customer_row w d) (λ p. refl) (over s.customers (heads.person s) g).0

pub unseen-names : (s : Tpcc) (w d : ℕ) (g : Lcg) (n : ℕ) → Unseen (names_drawn s w d g n)
unfolding heads.name_rows
unseen-names s w d g zero = tt
unseen-names s w d g (suc n) =
    each-append (λ r. is_seen r.0 ≡ false) (names_drawn s w d g n) _ (unseen-names s w d g n)
    (unseen-cases (heads.sharing_rows w d n) tt (λ r rs. (refl, unseen-map (heads.place_row w d (r ∷ rs)) (λ other. refl) (r ∷ rs)))
    (heads.sharing n (map heads.rank_of (over s.customers (heads.person s) g).0)))

-- ---- keys as they are drawn

pub few-lines : (g : Lcg) → (random 5 15 g).0 ≤ 15
few-lines g = omega arith

rises-line : (s : Tpcc) (w d o n : ℕ) (g : Lcg) → Rises (place w d o (n + 1)) (heads.order_line s w d o (n + 1) g).0 (place w d o (n + 2))
rises-line s w d o n g = (omega arith, omega arith)

rises-lines : (s : Tpcc) (w d o n : ℕ) (g : Lcg) → Rises (place w d o 1) (over n (heads.order_line s w d o) g).0 (place w d o (n + 1))
rises-lines s w d o n g =
    rises-over (λ k. place w d o (k + 1)) n (heads.order_line s w d o)
    (λ k h g. subst (λ m. Rises (place w d o (k + 1)) (heads.order_line s w d o (k + 1) g).0 (place w d o m)) (omega arith) (rises-line s w d o k g)) g

rises-end : (b : Bool) (s : Tpcc) (w d o : ℕ) (from : ℕ) → from ≤ place w d o 16
    → Rises from (if b then [] else row_of 4 (w ∷ d ∷ o ∷ []) [] ∷ []) (place w d (o + 1) 0)
rises-end true s w d o from h = omega (arith, h)
rises-end false s w d o from h = (omega (arith, h), omega arith)

rises-order : (s : Tpcc) (w d o : ℕ) (places : List ℕ) (g : Lcg) → Rises (place w d o 0) (heads.order s w d places o g).0 (place w d (o + 1) 0)
rises-order s w d o places g =
    let by = heads.carrier (nat_le o (heads.delivered s)) g in
    let count = random 5 15 by.1 in
    let few : count.0 ≤ 15 = few-lines by.1 in
    let lines = over count.0 (heads.order_line s w d o) count.1 in (
      omega arith,
      rises-append lines.0 (heads.open_rows s w d o) (place w d o 0 + 1) (place w d o (count.0 + 1)) (place w d (o + 1) 0)
          (rises-from lines.0 (place w d o 0 + 1) (place w d o 1) (place w d o (count.0 + 1)) (omega arith) (rises-lines s w d o count.0 count.1))
          (rises-end (nat_le o (heads.delivered s)) s w d o (place w d o (count.0 + 1)) (omega (arith, few))),
    )

rises-orders : (s : Tpcc) (w d : ℕ) (places : List ℕ) (n : ℕ) (g : Lcg)
    → Rises (place w d 1 0) (over n (heads.order s w d places) g).0 (place w d (n + 1) 0)
rises-orders s w d places n g =
    rises-over (λ k. place w d (k + 1) 0) n (heads.order s w d places) (λ k h g. rises-order s w d (k + 1) places g) g

rises-district : (s : Tpcc) (w d : ℕ) → s.customers ≤ 3000 → (g : Lcg) → Rises (place w d 0 0) (heads.district s w d g).0 (place w (d + 1) 0 0)
rises-district s w d few g =
    let tax = random 0 2000 g in
    let people = over s.customers (heads.person s) tax.1 in
    let places = heads.shuffled s.customers (range_with_len 1 s.customers) people.1 in
    let orders = over s.customers (heads.order s w d places.0) places.1 in
    let customers = map (heads.customer_row w d) people.0 in
    let names = heads.name_rows w d (map heads.rank_of people.0) (heads.names s) in (
      omega arith,
      rises-append (customers ++ orders.0) names (place w d 0 0 + 1) (place w d (s.customers + 1) 0) (place w (d + 1) 0 0)
          (rises-append customers orders.0 (place w d 0 0 + 1) (place w d 1 0) (place w d (s.customers + 1) 0)
          (rises-unseen customers (place w d 0 0 + 1) (place w d 1 0) (omega arith) (unseen-customers s w d tax.1))
          (rises-orders s w d places.0 s.customers places.1))
          (rises-unseen names (place w d (s.customers + 1) 0) (place w (d + 1) 0 0) (omega (arith, few))
          (unseen-names s w d tax.1 (heads.names s))),
    )

rises-districts : (s : Tpcc) (w : ℕ) → s.customers ≤ 3000 → (g : Lcg) → Rises (place w 1 0 0) (over 10 (heads.district s w) g).0 (place w 11 0 0)
rises-districts s w few g = rises-over (λ k. place w (k + 1) 0 0) 10 (heads.district s w) (λ k h g. rises-district s w (k + 1) few g) g

rises-warehouse : (s : Tpcc) (w : ℕ) → s.customers ≤ 3000 → (g : Lcg) → Rises (place w 0 0 0) (heads.warehouse s w g).0 (place (w + 1) 0 0 0)
rises-warehouse s w few g =
    let tax = random 0 2000 g in
    let stocks = over s.items (heads.stock w) tax.1 in
    let districts = over 10 (heads.district s w) stocks.1 in (
      omega arith,
      rises-append stocks.0 districts.0 (place w 0 0 0 + 1) (place w 1 0 0) (place (w + 1) 0 0 0)
          (rises-unseen stocks.0 (place w 0 0 0 + 1) (place w 1 0 0) (omega arith) (unseen-stock w s.items tax.1))
          (rises-to districts.0 (place w 1 0 0) (place w 11 0 0) (place (w + 1) 0 0 0) (omega arith) (rises-districts s w few stocks.1)),
    )

pub rises-head : (s : Tpcc) → s.customers ≤ 3000 → (g : Lcg) → Rises 0 (heads.head s g).0 (place (s.warehouses + 1) 0 0 0)
rises-head s few g =
    let items = over s.items heads.item g in
    rises-append items.0 (over s.warehouses (heads.warehouse s) items.1).0 0 (place 1 0 0 0) (place (s.warehouses + 1) 0 0 0)
    (rises-unseen items.0 0 (place 1 0 0 0) (omega arith) (unseen-items s.items g))
    (rises-over (λ k. place (k + 1) 0 0 0) s.warehouses (heads.warehouse s) (λ k h g. rises-warehouse s (k + 1) few g) items.1)

-- ---- what each row tells

-- an order of this district, open or not, or a line of it, or nothing
abbrev pub IsOfOrders : District → Fact → Type 0
IsOfOrders q (fact.Warehouse row) = ⊥
IsOfOrders q (fact.District row) = ⊥
IsOfOrders q (fact.Open at order) = at ≡ q
IsOfOrders q (fact.Order at order lines) = at ≡ q
IsOfOrders q (fact.Line at) = at ≡ q
IsOfOrders q fact.Other = ⊤

abbrev pub district_number : ℕ → ℕ → District
district_number w d = record { w = pos w; d = pos d }

orders-end : (b : Bool) (w d o : ℕ) → Each (λ r. IsOfOrders (district_number w d) (fact_of r)) (if b then [] else row_of 4 (w ∷ d ∷ o ∷ []) [] ∷ [])
orders-end true w d o = tt
orders-end false w d o = (refl, tt)

of-order : (s : Tpcc) (w d o : ℕ) (places : List ℕ) (g : Lcg)
    → Each (λ r. IsOfOrders (district_number w d) (fact_of r)) (heads.order s w d places o g).0
of-order s w d o places g =
    let by = heads.carrier (nat_le o (heads.delivered s)) g in
    let count = random 5 15 by.1 in (
      refl,
      each-append _ (over count.0 (heads.order_line s w d o) count.1).0 (heads.open_rows s w d o)
          (each-over _ count.0 (heads.order_line s w d o) (λ k h g. (refl, tt)) count.1)
          (orders-end (nat_le o (heads.delivered s)) w d o),
    )

pub of-orders : (s : Tpcc) (w d : ℕ) (places : List ℕ) (n : ℕ) (g : Lcg)
    → Each (λ r. IsOfOrders (district_number w d) (fact_of r)) (over n (heads.order s w d places) g).0
of-orders s w d places n g = each-over _ n (heads.order s w d places) (λ k h g. of-order s w d (k + 1) places g) g
