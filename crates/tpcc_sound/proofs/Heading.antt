-- The rows that order entry begins with are sound: each district has numbered all its orders, and the lines belong to these.
use Rattle.std.proofs.Common.{◌≡◌, refl, sym, ap, subst, ◌∙◌, ℕ, suc, ◌+◌, ◌<◌, ◌≤◌, ◌==◌, ◌||◌, ℤ, pos, Bool, true, false, nat_le, if◌then◌else◌}
use Rattle.std.proofs.Common.{List, [], ◌∷◌, ◌++◌, map, Option, Some, None, is_none, true≢false, arith}
use Rattle.std.specs.Prelude.{◌<ℤ◌}
use Rattle.std.specs.FinMap as fin
use Rattle.std.specs.List.{range_with_len}
use Rattle.std.proofs.lemmas.Int.{ints}
use Rattle.aria_base.specs.Draws.{standing}
use Rattle.aria_base.specs.Orders.{key_cmp, Cells, Database}
use Rattle.aria_base.specs.declared.keys.Key.{Key}
use Rattle.cat_builtin.specs.Warehouses as table
use Rattle.load_gen.specs.Draws.{random}
use Rattle.rand_pcg.specs.Lcg.{Lcg}
use Rattle.tpcc_audit.proofs.Audited.{head-holds}
use Rattle.tpcc_audit.proofs.Drawn.{Each, each-append, each-over, each-weaker, Unseen, unseen-items, unseen-stock, unseen-customers, unseen-names}
use Rattle.tpcc_audit.proofs.Ranks.{is_seen}
use Rattle.tpcc_load.specs.declared.settings.Tpcc.{Tpcc}
use Rattle.tpcc_load.specs.Draws.{over}
use Rattle.tpcc_load.specs.Heads as heads
use Rattle.tpcc_load.specs.Rows.{Row, row_of, laid}
use Rattle.tpcc_routines.specs.Routines.{d_next_o_id, order_number}
use Rattle.tpcc_routines.specs.Sound.{IsSound, AreNumbered}
use Rattle.tpcc_sound.proofs.Ordering.{put-cases}

-- ---- what holds of each row that is laid

laid-each : (P : Key → Cells → Type 0) (rows : List Row) (db : Database) → ((q : Key) (row : Cells) → fin.get db q ≡ Some row → P q row)
    → Each (λ r. P r.0 r.1) rows → (q : Key) (row : Cells) → fin.get (laid db rows) q ≡ Some row → P q row
laid-each P [] db before all q row found = before q row found
laid-each P (r ∷ rs) db before all q row found = laid-each P rs (fin.insert db r.0 r.1)
    (λ k v there. put-cases db r.0 r.1 k v there
    (λ here is. subst (λ x. P x v) (sym here) (subst (P r.0) is all.0))
    (λ _ was. before k v was)) all.1 q row found

no-row : (row : Cells) → None ≡ Some row → ⊥
no-row row e = true≢false (ap is_none e)

-- ---- a row of a district has the next number behind these, and a line's number is below it

module _ (s : Tpcc) where
  abbrev next_number : ℤ
  next_number = pos (s.customers + 1)

  abbrev IsBelow : Key → Cells → Type 0
  IsBelow k row = (k.table ≡ table.order_lines → order_number k <ℤ next_number) × (k.table ≡ table.districts → d_next_o_id row ≡ next_number)

  abbrev AreBelow : List Row → Type 0
  AreBelow rows = Each (λ r. IsBelow r.0 r.1) rows

  abbrev is_seen_table : ℕ → Bool
  is_seen_table t = t == table.warehouses || (t == table.districts || (t == table.open_orders || (t == table.orders || t == table.order_lines)))

  unseen-below : (r : Row) → is_seen r.0 ≡ false → IsBelow r.0 r.1
  unseen-below r unseen = (
    λ e. absurd (true≢false (sym (ap is_seen_table e) ∙ unseen)),
    λ e. absurd (true≢false (sym (ap is_seen_table e) ∙ unseen)),
  )

  unseen-rows : (rows : List Row) → Unseen rows → AreBelow rows
  unseen-rows rows all = each-weaker (λ r. is_seen r.0 ≡ false) (λ r. IsBelow r.0 r.1) unseen-below rows all

  -- a row of another table
  elsewhere : (t : ℕ) (k : Key) (row : Cells) → k.table ≡ t → (t ≡ table.order_lines → ⊥) → (t ≡ table.districts → ⊥) → IsBelow k row
  elsewhere t k row is no_line no_district = (λ e. absurd (no_line (sym is ∙ e)), λ e. absurd (no_district (sym is ∙ e)))

  number-below : (o : ℕ) → o ≤ s.customers → pos o <ℤ pos (s.customers + 1)
  number-below o few = omega (arith, ints, few)

  end-below : (b : Bool) (w d o : ℕ) → AreBelow (if b then [] else row_of 4 (w ∷ d ∷ o ∷ []) [] ∷ [])
  end-below true w d o = tt
  end-below false w d o = (((λ e. absurd (omega (arith, e))), (λ e. absurd (omega (arith, e)))), tt)

  order-below : (w d o : ℕ) → o ≤ s.customers → (places : List ℕ) (g : Lcg) → AreBelow (heads.order s w d places o g).0
  order-below w d o few places g =
      let by = heads.carrier (nat_le o (heads.delivered s)) g in
      let count = random 5 15 by.1 in
      let lines = over count.0 (heads.order_line s w d o) count.1 in (
        ((λ e. absurd (omega (arith, e))), (λ e. absurd (omega (arith, e)))),
        each-append (λ r. IsBelow r.0 r.1) lines.0 (heads.open_rows s w d o)
            (each-over (λ r. IsBelow r.0 r.1) count.0 (heads.order_line s w d o)
            (λ k h g. (((λ _. number-below o few), (λ e. absurd (omega (arith, e)))), tt)) count.1)
            (end-below (nat_le o (heads.delivered s)) w d o),
      )

  district-below : (w d : ℕ) (g : Lcg) → AreBelow (heads.district s w d g).0
  district-below w d g =
      let tax = random 0 2000 g in
      let people = over s.customers (heads.person s) tax.1 in
      let places = heads.shuffled s.customers (range_with_len 1 s.customers) people.1 in
      let orders = over s.customers (heads.order s w d places.0) places.1 in
      let customers = map (heads.customer_row w d) people.0 in
      let names = heads.name_rows w d (map heads.rank_of people.0) (heads.names s) in (
        ((λ e. absurd (omega (arith, e))), (λ _. refl)),
        each-append (λ r. IsBelow r.0 r.1) (customers ++ orders.0) names
            (each-append (λ r. IsBelow r.0 r.1) customers orders.0 (unseen-rows customers (unseen-customers s w d tax.1))
            (each-over (λ r. IsBelow r.0 r.1) s.customers (heads.order s w d places.0)
            (λ k h g. order-below w d (k + 1) (omega (arith, h)) places.0 g) places.1))
            (unseen-rows names (unseen-names s w d tax.1 (heads.names s))),
      )

  warehouse-below : (w : ℕ) (g : Lcg) → AreBelow (heads.warehouse s w g).0
  warehouse-below w g =
      let tax = random 0 2000 g in
      let stocks = over s.items (heads.stock w) tax.1 in
      let districts = over 10 (heads.district s w) stocks.1 in (
        ((λ e. absurd (omega (arith, e))), (λ e. absurd (omega (arith, e)))),
        each-append (λ r. IsBelow r.0 r.1) stocks.0 districts.0 (unseen-rows stocks.0 (unseen-stock w s.items tax.1))
            (each-over (λ r. IsBelow r.0 r.1) 10 (heads.district s w) (λ k h g. district-below w (k + 1) g) stocks.1),
      )

  head-below : (g : Lcg) → AreBelow (heads.head s g).0
  head-below g =
      let items = over s.items heads.item g in
      each-append (λ r. IsBelow r.0 r.1) items.0 (over s.warehouses (heads.warehouse s) items.1).0 (unseen-rows items.0 (unseen-items s.items g))
      (each-over (λ r. IsBelow r.0 r.1) s.warehouses (heads.warehouse s) (λ k h g. warehouse-below (k + 1) g) items.1)

  head-numbered : (g : Lcg) → AreNumbered (laid fin.empty (heads.head s g).0)
  head-numbered g k line district of found there =
      let rows = (heads.head s g).0 in
      let each = laid-each IsBelow rows fin.empty (λ q row none. absurd (no-row row (sym (fin.get-empty key_cmp q) ∙ none))) (head-below g) in
      subst (λ n. order_number k <ℤ n) (sym ((each _ district there).1 refl)) ((each k line found).0 of)

  pub head-sound : heads.IsWithin s → IsSound (laid fin.empty (heads.head s (standing s.number 1 0)).0)
  head-sound within = record { audit = head-holds s within (standing s.number 1 0); lines = head-numbered (standing s.number 1 0) }
