-- The rows of a part of the database are laid one group behind the other.
use Rattle.std.proofs.Common.{◌≡◌, refl, ap, sym, ◌∙◌, ℕ, zero, suc, ◌+◌, ◌-◌, List, [], ◌∷◌, ◌++◌, map, pos, nat_le, arith, ◌<◌, ◌≤◌}
use Rattle.std.specs.FinMap as fin
use Rattle.std.specs.List.{range_with_len}
use Rattle.rand_pcg.specs.Lcg.{Lcg}
use Rattle.aria_base.specs.Orders.{Database}
use Rattle.cat_builtin.specs.Warehouses as table
use Rattle.load_gen.specs.Draws.{random}
use Rattle.tpcc_load.specs.declared.districts.TheConstants.{DISTRICTS_EACH}
use Rattle.tpcc_load.specs.declared.settings.Tpcc.{Tpcc}
use Rattle.tpcc_load.specs.declared.names.Rank.{Rank}
use Rattle.tpcc_load.specs.declared.customers.Person.{Person}
use Rattle.tpcc_load.specs.Draws.{over}
use Rattle.tpcc_load.specs.Rows.{Row, row_of, laid, laid_drawn}
use Rattle.tpcc_load.specs.Heads.{delivered, carrier, order_line, open_rows, order_of, order, district_row, customer_row, person, rank_of, names}
use Rattle.tpcc_load.specs.Heads.{name_rows, shuffled, exchange, sharing, sharing_rows, district, warehouse, stock, item, head}
use Rattle.std.proofs.lemmas.List.{map-append, append_assoc}
use Rattle.tpcc_load.proofs.Overs.{laid-append}

-- a row, and then two groups
laid-three : (t : Database) (r : Row) (some more : List Row)
    → laid (laid (laid t (r ∷ [])) some) more ≡ laid t (r ∷ some ++ more)
unfolding laid
laid-three t r some more = sym (laid-append (fin.insert t r.0 r.1) some more)

abbrev order_row : ℕ → ℕ → ℕ → ℕ → ℕ → ℕ → Row
order_row w d customer o by count =
    row_of table.orders (w ∷ d ∷ o ∷ []) (pos customer ∷ pos 1 ∷ pos by ∷ pos count ∷ pos 1 ∷ [])

pub order-laid : (s : Tpcc) (w d customer o by count : ℕ) (t0 t1 t2 t3 : Database) (g0 g1 g2 g3 : Lcg)
    → (by, g1) ≡ carrier (nat_le o (delivered s)) g0 → (count, g2) ≡ random 5 15 g1
    → t1 ≡ laid t0 (row_of table.orders (w ∷ d ∷ o ∷ []) (pos customer ∷ pos 1 ∷ pos by ∷ pos count ∷ pos 1 ∷ []) ∷ [])
    → (t2, g3) ≡ laid_drawn t1 (over count (order_line s w d o) g2) → t3 ≡ laid t2 (open_rows s w d o)
    → (t3, g3) ≡ laid_drawn t0 (order_of s w d customer o g0)
order-laid s w d customer o by count t0 t1 t2 t3 g0 g1 g2 g3 p1 p2 q1 q2 q3 =
    let open_ones = open_rows s w d o in
    let drawn : ℕ × Lcg → List Row × Lcg = λ n. over n.0 (order_line s w d o) n.1 in
    ap (λ t. (t, g3)) q3
    ∙ ap (λ x. (laid x.0 open_ones, x.1)) q2
    ∙ ap (λ t. (laid (laid t (drawn (count, g2)).0) open_ones, (drawn (count, g2)).1)) q1
    ∙ ap (λ t. (t, (drawn (count, g2)).1)) (laid-three t0 (order_row w d customer o by count) (drawn (count, g2)).0 open_ones)
    ∙ (λ i.
    let n = (p2 ∙ ap (λ b. random 5 15 b.1) p1) i in
    (laid t0 (order_row w d customer o (p1 i).0 n.0 ∷ (drawn n).0 ++ open_ones), (drawn n).1))

-- a row, and then three groups
laid-four : (t : Database) (r : Row) (some more rest : List Row)
    → laid (laid (laid (laid t (r ∷ [])) some) more) rest ≡ laid t (r ∷ some ++ more ++ rest)
unfolding laid
laid-four t r some more rest =
    sym (laid-append (laid (laid t (r ∷ [])) some) more rest) ∙ laid-three t r some (more ++ rest)
    ∙ ap (laid t) (sym (append_assoc (r ∷ some) more rest))

pub district-laid : (s : Tpcc) (w d tax : ℕ) (ranks : List Rank) (places : List ℕ) (t0 t1 t2 t3 t4 : Database) (g0 g1 g2 g3 g4 : Lcg)
    → (tax, g1) ≡ random 0 2000 g0 → t1 ≡ laid t0 (district_row s w d tax ∷ [])
    → g2 ≡ (over s.customers (person s) g1).1
    → t2 ≡ laid t1 (map (customer_row w d) (over s.customers (person s) g1).0)
    → ranks ≡ map rank_of (over s.customers (person s) g1).0
    → (places, g3) ≡ shuffled s.customers (range_with_len 1 s.customers) g2
    → (t3, g4) ≡ laid_drawn t2 (over s.customers (order s w d places) g3)
    → t4 ≡ laid t3 (name_rows w d ranks (names s))
    → (t4, g4) ≡ laid_drawn t0 (district s w d g0)
district-laid s w d tax ranks places t0 t1 t2 t3 t4 g0 g1 g2 g3 g4 p1 q1 p2 q2 q3 p3 q4 q5 =
    let people : Lcg → List Person × Lcg = λ g. over s.customers (person s) g in
    let mixed : Lcg → List ℕ × Lcg = λ g. shuffled s.customers (range_with_len 1 s.customers) g in
    let drawn : List ℕ × Lcg → List Row × Lcg = λ x. over s.customers (order s w d x.0) x.1 in
    let by_name : List Rank → List Row = λ rs. name_rows w d rs (names s) in
    let rows : List Person → List Row = map (customer_row w d) in
    ap (λ t. (t, g4)) q5
    ∙ ap (λ x. (laid x.0 (by_name ranks), x.1)) q4
    ∙ ap (λ x. (laid (laid t2 (drawn x).0) (by_name ranks), (drawn x).1)) p3
    ∙ (λ i. (laid (laid (q2 i) (drawn (mixed (p2 i))).0) (by_name (q3 i)), (drawn (mixed (p2 i))).1))
    ∙ ap (λ t. (
      laid (laid (laid t (rows (people g1).0)) (drawn (mixed (people g1).1)).0) (by_name (map rank_of (people g1).0)),
      (drawn (mixed (people g1).1)).1,
    )) q1
    ∙ ap (λ t. (t, (drawn (mixed (people g1).1)).1)) (laid-four t0 (district_row s w d tax) (rows (people g1).0) (drawn (mixed (people g1).1)).0
    (by_name (map rank_of (people g1).0)))
    ∙ ap (λ a. (
      laid t0 (district_row s w d a.0 ∷ rows (people a.1).0 ++ (drawn (mixed (people a.1).1)).0 ++ by_name (map rank_of (people a.1).0)),
      (drawn (mixed (people a.1).1)).1,
    )) p1

pub warehouse-laid : (s : Tpcc) (w tax : ℕ) (t0 t1 t2 t3 : Database) (g0 g1 g2 g3 : Lcg)
    → (tax, g1) ≡ random 0 2000 g0 → t1 ≡ laid t0 (row_of table.warehouses (w ∷ []) (pos tax ∷ pos 30000000 ∷ []) ∷ [])
    → (t2, g2) ≡ laid_drawn t1 (over s.items (stock w) g1)
    → (t3, g3) ≡ laid_drawn t2 (over DISTRICTS_EACH (district s w) g2)
    → (t3, g3) ≡ laid_drawn t0 (warehouse s w g0)
warehouse-laid s w tax t0 t1 t2 t3 g0 g1 g2 g3 p1 q1 q2 q3 =
    let stocks : Lcg → List Row × Lcg = λ g. over s.items (stock w) g in
    let districts : Lcg → List Row × Lcg = λ g. over DISTRICTS_EACH (district s w) g in
    let row : ℕ → Row = λ n. row_of table.warehouses (w ∷ []) (pos n ∷ pos 30000000 ∷ []) in
    q3
    ∙ ap (λ x. (laid x.0 (districts x.1).0, (districts x.1).1)) q2
    ∙ ap (λ t. (laid (laid t (stocks g1).0) (districts (stocks g1).1).0, (districts (stocks g1).1).1)) q1
    ∙ ap (λ t. (t, (districts (stocks g1).1).1)) (laid-three t0 (row tax) (stocks g1).0 (districts (stocks g1).1).0)
    ∙ ap (λ a. (laid t0 (row a.0 ∷ (stocks a.1).0 ++ (districts (stocks a.1).1).0), (districts (stocks a.1).1).1)) p1

pub head-laid : (s : Tpcc) (t0 t1 t2 : Database) (g0 g1 g2 : Lcg)
    → (t1, g1) ≡ laid_drawn t0 (over s.items item g0)
    → (t2, g2) ≡ laid_drawn t1 (over s.warehouses (warehouse s) g1)
    → t2 ≡ laid t0 (head s g0).0
head-laid s t0 t1 t2 g0 g1 g2 q1 q2 =
    let houses : Lcg → List Row × Lcg = λ g. over s.warehouses (warehouse s) g in
    ap (λ x. x.0) q2
    ∙ ap (λ x. laid x.0 (houses x.1).0) q1
    ∙ sym (laid-append t0 (over s.items item g0).0 (houses (over s.items item g0).1).0)

-- the first row, and then the others
pub laid-first : (t : Database) (r : Row) (rest : List Row) → laid (laid t (r ∷ [])) rest ≡ laid t (r ∷ rest)
unfolding laid
laid-first t r rest = refl

pub names-none : (w d : ℕ) (ranks : List Rank) (t : Database) → t ≡ laid t (name_rows w d ranks 0)
unfolding laid name_rows
names-none w d ranks t = refl

-- one name more
pub names-more : (w d : ℕ) (ranks : List Rank) (t : Database) (n : ℕ)
    → laid (laid t (name_rows w d ranks n)) (sharing_rows w d n (sharing n ranks)) ≡ laid t (name_rows w d ranks (n + 1))
unfolding name_rows
names-more w d ranks t n =
    let e : suc n ≡ n + 1 = omega arith in
    sym (laid-append t (name_rows w d ranks n) (sharing_rows w d n (sharing n ranks))) ∙ ap (λ k. laid t (name_rows w d ranks k)) e

pub mapped-none : (t : Database) (f : Person → Row) → t ≡ laid t (map f [])
unfolding laid
mapped-none t f = refl

pub mapped-more : (t : Database) (f : Person → Row) (some : List Person) (p : Person)
    → laid (laid t (map f some)) (f p ∷ []) ≡ laid t (map f (some ++ p ∷ []))
mapped-more t f some p = sym (laid-append t (map f some) (f p ∷ [])) ∙ ap (laid t) (sym (map-append f some (p ∷ [])))

-- the exchanges from one place down are its own exchange, and then those from the place before
shuffled-down : (k : ℕ) (list : List ℕ) (g : Lcg)
    → shuffled (suc (suc k)) list g ≡ (let r = random 1 (k + 2) g in shuffled (suc k) (exchange (k + 2) r.0 list) r.1)
unfolding shuffled
shuffled-down k list g = refl

pub shuffled-step : (l other : ℕ) (list next : List ℕ) (g behind : Lcg) → 1 < l → (other, behind) ≡ random 1 l g → next ≡ exchange l other list
    → shuffled (l - 1) next behind ≡ shuffled l list g
shuffled-step l other list next g behind h p q =
    let k = l - 2 in
    let e1 : suc (suc k) ≡ l = omega (arith, h) in
    let e2 : suc k ≡ l - 1 = omega (arith, h) in
    let e3 : k + 2 ≡ l = omega (arith, h) in
    let after : ℕ → ℕ → ℕ × Lcg → List ℕ × Lcg = λ before here r. shuffled before (exchange here r.0 list) r.1 in
    ap (λ x. shuffled (l - 1) x behind) q
    ∙ ap (after (l - 1) l) p
    ∙ sym (λ i. after (e2 i) (e3 i) (random 1 (e3 i) g))
    ∙ sym (shuffled-down k list g)
    ∙ ap (λ n. shuffled n list g) e1

pub shuffled-end : (l : ℕ) (list : List ℕ) (g : Lcg) → l ≤ 1 → (list, g) ≡ shuffled l list g
unfolding shuffled
shuffled-end zero list g h = refl
shuffled-end (suc zero) list g h = refl
shuffled-end (suc (suc k)) list g h = absurd (omega (arith, h))

range_more_from : (a n : ℕ) → range_with_len a n ++ (a + n) ∷ [] ≡ range_with_len a (n + 1)
range_more_from a zero = let e : a + 0 ≡ a = omega arith in ap (λ k. k ∷ []) e
range_more_from a (suc n) =
    let e : a + suc n ≡ a + 1 + n = omega arith in
    let f : suc (n + 1) ≡ suc n + 1 = omega arith in
    ap (λ k. a ∷ range_with_len (a + 1) n ++ k ∷ []) e ∙ ap (λ l. a ∷ l) (range_more_from (a + 1) n) ∙ ap (range_with_len a) f

pub range-more : (n : ℕ) → range_with_len 1 n ++ (n + 1) ∷ [] ≡ range_with_len 1 (n + 1)
range-more n = let e : n + 1 ≡ 1 + n = omega arith in ap (λ k. range_with_len 1 n ++ k ∷ []) e ∙ range_more_from 1 n
