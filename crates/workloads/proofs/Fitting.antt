-- The rows that a workload begins with fit its catalogue.
use Rattle.std.proofs.Common.{◌≡◌, true, false, cond, ℕ, zero, suc, ◌+◌, ◌-◌, nat_le, slice_index_or, Bool, Option, Some, List, [], ◌∷◌, ◌++◌, map, refl, sym, ap, ◌∙◌, subst}
use Rattle.std.specs.Prelude.{⊤, Result, Ok, Err, IfOk}
use Rattle.std.specs.List.{range_with_len}
use Rattle.std.specs.Ordering.{eq_by_cmp}
use Rattle.std.specs.FinMap as fin
use Rattle.std.specs.FinMap.Entries.{find}
use Rattle.proc_lang.specs.Catalogs.{Plan}
use Rattle.rand_pcg.specs.Lcg.{Lcg}
use Rattle.aria_base.specs.Draws.{standing}
use Rattle.aria_base.specs.Orders.{Cells, Database, key_cmp}
use Rattle.aria_base.specs.Schemas.{Fits, IsConsistent}
use Rattle.aria_base.specs.declared.keys.Key.{Key}
use Rattle.aria_base.specs.declared.schemas.Table.{Table}
use Rattle.aria_base.proofs.Fitting.{fit_with, none_fit}
use Rattle.aria_base.proofs.Orders.{key_cmp_total, key_cmp-IsAntisymmetric}
use Rattle.batch_rules.proofs.Maps.{same_key}
use Rattle.cat_builtin.specs.Ycsb.{ycsb}
use Rattle.cat_builtin.specs.Tpcc.{tpcc}
use Rattle.cat_builtin.specs.Warehouses as table
use Rattle.load_gen.specs.Draws.{Drawn, random}
use Rattle.load_gen.specs.Ycsb.{key_of, zeros, rows_from}
use Rattle.load_gen.specs.declared.settings.Ycsb.{Ycsb}
use Rattle.tpcc_load.specs.Draws.{over}
use Rattle.tpcc_load.specs.Heads as heads
use Rattle.tpcc_load.specs.Rows.{Row, row_of, laid}
use Rattle.tpcc_load.specs.declared.settings.Tpcc.{Tpcc}
use Rattle.workloads.specs.Generators.{plan_of, rows_of}
use Rattle.workloads.specs.declared.generators.Generator.{Generator}
use Rattle.workloads.specs.declared.generators.Generator.TheVariants as load

-- each of the rows fits
abbrev AreFit : List Table → List (Key × Cells) → Type 0
AreFit tables [] = ⊤
AreFit tables (r ∷ rs) = Fits tables r.0 r.1 × AreFit tables rs

both_fit : (tables : List Table) (rs qs : List (Key × Cells)) → AreFit tables rs → AreFit tables qs → AreFit tables (rs ++ qs)
both_fit tables [] qs h k = k
both_fit tables (r ∷ rs) qs h k = (h.0, both_fit tables rs qs h.1 k)

mapped_fit : {X : Type 0} (tables : List Table) (f : X → Key × Cells) (xs : List X) → ((x : X) → Fits tables (f x).0 (f x).1) → AreFit tables (map f xs)
mapped_fit tables f [] each = tt
mapped_fit tables f (x ∷ xs) each = (each x, mapped_fit tables f xs each)

-- ---- what is found in a database fits

at_key : (tables : List Table) (k q : Key) (v row : Cells) (rest : Option Cells) (same : Bool) → eq_by_cmp key_cmp q k ≡ same → Fits tables k v
    → (rest ≡ Some row → Fits tables q row) → cond same (Some v) rest ≡ Some row → Fits tables q row
at_key tables k q v row rest true same fit others e =
    let it : v ≡ row = cc in
    subst (λ (x : Key). Fits tables x row) (sym (same_key key_cmp-IsAntisymmetric q k same)) (subst (λ (x : Cells). Fits tables k x) it fit)
at_key tables k q v row rest false same fit others e = others e

found_fit : (tables : List Table) (es : List (Key × Cells)) → AreFit tables es → (q : Key) (row : Cells) → find key_cmp q es ≡ Some row → Fits tables q row
found_fit tables [] h q row e = cc
found_fit tables (r ∷ rs) h q row e = at_key tables r.0 q r.1 row (find key_cmp q rs) (eq_by_cmp key_cmp q r.0) refl h.0 (found_fit tables rs h.1 q row) e

entries_fit : (tables : List Table) (es : List (Key × Cells)) → AreFit tables es → IsConsistent tables (fin.from_entries {R = key_cmp} es)
entries_fit tables es h q row e = found_fit tables es h q row (sym (fin.get-from_entries key_cmp_total es q) ∙ e)

laid_fit : (tables : List Table) (rows : Database) (rs : List (Key × Cells)) → IsConsistent tables rows → AreFit tables rs → IsConsistent tables (laid rows rs)
laid_fit tables rows [] h k = h
laid_fit tables rows (r ∷ rs) h k =
    laid_fit tables (fin.insert rows r.0 r.1) rs (fit_with tables rows (fin.insert rows r.0 r.1) r.0 r.1 h k.0 refl) k.1

-- ---- accesses to single rows

ycsb_fit : (keys : ℕ) → IsConsistent ycsb.tables (fin.from_entries {R = key_cmp} (rows_from 0 keys))
ycsb_fit keys = entries_fit ycsb.tables (rows_from 0 keys) (mapped_fit ycsb.tables (λ n. (key_of n, zeros)) (range_with_len 0 keys) (λ n. (refl, refl)))

-- ---- order entry

-- whatever the generator, the rows that are drawn fit
abbrev DrawsFit : Drawn (List Row) → Type 0
DrawsFit d = (g : Lcg) → AreFit tpcc.tables (d g).0

over_fit : (n : ℕ) (d : ℕ → Drawn (List Row)) → ((i : ℕ) → DrawsFit (d i)) → DrawsFit (over n d)
unfolding over
over_fit zero d each g = tt
over_fit (suc n) d each g = both_fit tpcc.tables (over n d g).0 (d (n + 1) (over n d g).1).0 (over_fit n d each g) (each (n + 1) (over n d g).1)

item_fits : (i : ℕ) → DrawsFit (heads.item i)
item_fits i g = ((refl, refl), tt)

stock_fits : (w i : ℕ) → DrawsFit (heads.stock w i)
stock_fits w i g = ((refl, refl), tt)

line_fits : (s : Tpcc) (w d o n : ℕ) → DrawsFit (heads.order_line s w d o n)
line_fits s w d o n g = ((refl, refl), tt)

open_fits : (w d o : ℕ) (done : Bool) → AreFit tpcc.tables (cond done [] (row_of table.open_orders (w ∷ d ∷ o ∷ []) [] ∷ []))
open_fits w d o true = tt
open_fits w d o false = ((refl, refl), tt)

order_fits : (s : Tpcc) (w d customer o : ℕ) → DrawsFit (heads.order_of s w d customer o)
order_fits s w d customer o g =
    let by = heads.carrier (nat_le o (heads.delivered s)) g in
    let count = random 5 15 by.1 in (
      (refl, refl),
      both_fit tpcc.tables (over count.0 (heads.order_line s w d o) count.1).0 (heads.open_rows s w d o)
          (over_fit count.0 (heads.order_line s w d o) (line_fits s w d o) count.1) (open_fits w d o (nat_le o (heads.delivered s))),
    )

-- of the names of a district's customers
names_fit : (s : Tpcc) (w d : ℕ) (g : Lcg) (n : ℕ) → AreFit tpcc.tables (heads.name_rows w d (map heads.rank_of (over s.customers (heads.person s) g).0) n)
unfolding heads.name_rows
names_fit s w d g zero = tt
names_fit s w d g (suc n) =
    let ranks = map heads.rank_of (over s.customers (heads.person s) g).0 in
    both_fit tpcc.tables (heads.name_rows w d ranks n) (heads.sharing_rows w d n (heads.sharing n ranks)) (names_fit s w d g n)
    (elim (heads.sharing n ranks) as (λ rs. AreFit tpcc.tables (heads.sharing_rows w d n rs)) [
      | [] ↦ tt
      | r ∷ rs ↦ ((refl, refl), mapped_fit tpcc.tables (heads.place_row w d (r ∷ rs)) (r ∷ rs) (λ x. (refl, refl)))
    ])

district_fits : (s : Tpcc) (w d : ℕ) → DrawsFit (heads.district s w d)
district_fits s w d g =
    let tax = random 0 2000 g in
    let people = over s.customers (heads.person s) tax.1 in
    let places = heads.shuffled s.customers (range_with_len 1 s.customers) people.1 in
    let orders = over s.customers (heads.order s w d places.0) places.1 in
    let names = heads.name_rows w d (map heads.rank_of people.0) (heads.names s) in
    let customers = map (heads.customer_row w d) people.0 in
    let each_order = over_fit s.customers (heads.order s w d places.0) (λ o. order_fits s w d (slice_index_or places.0 (o - 1) 0) o) places.1 in (
      (refl, refl),
      both_fit tpcc.tables (customers ++ orders.0) names
          (both_fit tpcc.tables customers orders.0 (mapped_fit tpcc.tables (heads.customer_row w d) people.0 (λ p. (refl, refl))) each_order)
          (names_fit s w d tax.1 (heads.names s)),
    )

warehouse_fits : (s : Tpcc) (w : ℕ) → DrawsFit (heads.warehouse s w)
warehouse_fits s w g =
    let tax = random 0 2000 g in
    let stocks = over s.items (heads.stock w) tax.1 in (
      (refl, refl),
      both_fit tpcc.tables stocks.0 (over 10 (heads.district s w) stocks.1).0
          (over_fit s.items (heads.stock w) (stock_fits w) tax.1) (over_fit 10 (heads.district s w) (district_fits s w) stocks.1),
    )

head_fits : (s : Tpcc) → DrawsFit (heads.head s)
head_fits s g =
    let items = over s.items heads.item g in
    both_fit tpcc.tables items.0 (over s.warehouses (heads.warehouse s) items.1).0
    (over_fit s.items heads.item item_fits g) (over_fit s.warehouses (heads.warehouse s) (warehouse_fits s) items.1)

-- ---- both

generator_fits : (g : Generator) → IsConsistent (plan_of g).tables (rows_of g)
generator_fits (load.Ycsb s) = ycsb_fit s.keys
generator_fits (load.Tpcc s) =
    laid_fit tpcc.tables fin.empty (heads.head s (standing s.number 1 0)).0 (none_fit tpcc.tables fin.empty refl) (head_fits s (standing s.number 1 0))

-- a catalogue and rows that were made, if there was memory
pub head_fits_by : {E : Type 0} (g : Generator) (result : Result (Plan × Database) E) → IfOk result (λ head. head.0 ≡ plan_of g)
    → IfOk result (λ head. head.1 ≡ rows_of g) → IfOk result (λ head. IsConsistent head.0.tables head.1)
head_fits_by g (Ok head) plan rows =
    subst (λ (p : Plan). IsConsistent p.tables head.1) (sym plan) (subst (IsConsistent (plan_of g).tables) (sym rows) (generator_fits g))
head_fits_by g (Err e) plan rows = tt
