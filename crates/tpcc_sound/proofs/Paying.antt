-- What a payment does to sound rows: the amount of a warehouse and that of one of its districts are raised alike.
use Rattle.std.proofs.Common.{◌≡◌, refl, sym, ap, subst, ◌∙◌, ℕ, ◌+◌, ℤ, pos, ◌+ℤ◌, Bool, true, false, cond, eqb, true≢false}
use Rattle.std.proofs.Common.{if◌then◌else◌, List, [], ◌∷◌, map, Option, Some, None, nat_le, arith}
use Rattle.std.specs.Prelude.{◌<ℤ◌}
use Rattle.std.specs.Ordering.{int_eq, int_cmp}
use Rattle.std.specs.FinMap as fin
use Rattle.std.proofs.lemmas.Cmp.{int_eq_equiv}
use Rattle.std.proofs.lemmas.Int.{ints}
use Rattle.std.proofs.lemmas.Map.Lookups.{exact_signed}
use Rattle.std.proofs.lemmas.Map.Views.{tells_apart}
use Rattle.aria_base.proofs.Orders.{key_cmp_total}
use Rattle.aria_base.specs.Kinds.{part_kind}
use Rattle.aria_base.specs.Orders.{Cells, Database}
use Rattle.aria_base.specs.Schemas.{Fits, IsConsistent}
use Rattle.aria_base.specs.declared.keys.Key.{Key}
use Rattle.aria_base.specs.declared.keys.Part.{Part}
use Rattle.aria_base.specs.declared.keys.Part.TheVariants as part
use Rattle.aria_base.specs.declared.values.Kind.TheVariants as kind
use Rattle.aria_base.specs.declared.values.Value.TheVariants as value
use Rattle.cat_builtin.specs.Warehouses as table
use Rattle.tpcc_audit.specs.declared.conditions.Condition.{Condition}
use Rattle.tpcc_audit.specs.declared.conditions.Condition.TheVariants as condition
use Rattle.tpcc_audit.specs.declared.facts.District.{District}
use Rattle.tpcc_audit.specs.declared.facts.Fact.TheVariants as fact
use Rattle.tpcc_audit.specs.declared.findings.Audit.TheVariants.{Holds}
use Rattle.tpcc_audit.specs.declared.tallies.Tally.{Tally}
use Rattle.tpcc_audit.specs.Books.{tally_of, paid_to}
use Rattle.tpcc_audit.specs.Conditions.{amount, at_district}
use Rattle.tpcc_audit.specs.Facts.{part_at, district_at, fact_of, facts_of}
use Rattle.tpcc_routines.specs.Answers.{key_at}
use Rattle.tpcc_routines.specs.Routines.{d_next_o_id, order_number}
use Rattle.tpcc_routines.specs.Sound.{AreNumbered}
use Rattle.tpcc_sound.proofs.Audits.{compared-is, compared-holds}
use Rattle.tpcc_sound.proofs.Counting.{tally-changed, paid-changed, tally-other, paid-other, same-Some}
use Rattle.tpcc_sound.proofs.Entries.{ties, tied, ties-self}
use Rattle.tpcc_sound.proofs.Points.{HoldsOf, warehouse_of, district_at_key}
use Rattle.tpcc_sound.proofs.Ordering.{three, district_key, row_of, put-cases, apart-tables, get-apart, numbered-put}

-- ---- a row that no audit looks at

pub holds-other : (db : Database) (k : Key) (v : Cells) → ((row : Cells) → fact_of (k, row) ≡ fact.Other) → nat_le 2 k.table ≡ true
    → (k.table ≡ table.order_lines → ⊥) → HoldsOf db → HoldsOf (fin.insert db k v)
holds-other db k v other high no_line each = record {
  amounts = λ q row of found.
      ap (amount (warehouse_of q row)) (paid-other (part_at q.parts 0) db k v other)
      ∙ each.amounts q row of (sym (get-apart db k v q (apart-tables q k (apart-high q.table 0 of refl))) ∙ found);
  districts = λ c q row of found.
      ap (at_district c (district_at_key q row)) (tally-other (district_at q.parts) db k v other)
      ∙ each.districts c q row of (sym (get-apart db k v q (apart-tables q k (apart-high q.table 1 of refl))) ∙ found);
  lines = numbered-put db k v each.lines (apart-high 1 1 refl refl) (λ of. absurd (no_line of));
}
  where
    apart-high : (t n : ℕ) → t ≡ n → nat_le n 1 ≡ true → eqb t k.table ≡ false
    apart-high t n is low = grind (arith, is, low, high)

-- ---- amounts

abbrev pub two : ℤ → ℤ → Cells
two a b = value.Int a ∷ value.Int b ∷ []

abbrev pub warehouse_key : ℤ → Key
warehouse_key w = key_at table.warehouses (w ∷ [])

-- what more was paid to a warehouse's districts
abbrev more_of : ℤ → ℤ → ℤ → ℤ
more_of w a v = if int_eq w v then a else pos 0

raised-by : (b : Bool) (t ytd a : ℤ) → (if b then t +ℤ (ytd +ℤ a) else t) ≡ (if b then t +ℤ ytd else t) +ℤ (if b then a else pos 0)
raised-by true t ytd a = omega (arith, ints)
raised-by false t ytd a = omega (arith, ints)

plus-none : (t : ℤ) → t ≡ t +ℤ pos 0
plus-none t = omega (arith, ints)

one-part : (parts : List Part) (w : ℤ) → map part_kind parts ≡ kind.Int ∷ [] → part_at parts 0 ≡ w → parts ≡ part.Int w ∷ []
one-part (part.Int v ∷ []) w kinds is = ap (λ n. part.Int n ∷ []) is
one-part _ w kinds is = let no : ⊥ = cc in absurd no

module _ (db0 : Database) (at : District) (w_tax w_ytd d_tax d_ytd next a : ℤ) (consistent : IsConsistent table.tables db0) (each : HoldsOf db0)
    (warehouse_there : fin.get db0 (warehouse_key at.w) ≡ Some (two w_tax w_ytd)) (there : fin.get db0 (district_key at) ≡ Some (three d_tax d_ytd next)) where
  abbrev paid_row : Cells
  paid_row = two w_tax (w_ytd +ℤ a)

  abbrev pub first_db : Database
  first_db = fin.insert db0 (warehouse_key at.w) paid_row

  abbrev district_paid : Cells
  district_paid = three d_tax (d_ytd +ℤ a) next

  abbrev pub paid_db : Database
  paid_db = fin.insert first_db (district_key at) district_paid

  there-still : fin.get first_db (district_key at) ≡ Some (three d_tax d_ytd next)
  there-still = get-apart db0 (warehouse_key at.w) paid_row (district_key at) (apart-tables (district_key at) (warehouse_key at.w) refl) ∙ there

  paid-more : (v : ℤ) → paid_to v (facts_of paid_db) ≡ paid_to v (facts_of db0) +ℤ more_of at.w a v
  paid-more v =
      paid-changed v (more_of at.w a v) first_db (district_key at) district_paid (three d_tax d_ytd next) (λ t. raised-by (int_eq at.w v) t d_ytd a) there-still
      ∙ ap (λ t. t +ℤ more_of at.w a v)
      (paid-changed v (pos 0) db0 (warehouse_key at.w) paid_row (two w_tax w_ytd) (λ t. plus-none t) warehouse_there
      ∙ sym (plus-none (paid_to v (facts_of db0))))

  tally-same : (q : District) → tally_of q (facts_of paid_db) ≡ tally_of q (facts_of db0)
  tally-same q =
      tally-changed q first_db (district_key at) district_paid (three d_tax d_ytd next) (λ t. refl) there-still
      ∙ tally-changed q db0 (warehouse_key at.w) paid_row (two w_tax w_ytd) (λ t. refl) warehouse_there

  -- the district's number is what it was
  numbered-same : AreNumbered first_db → AreNumbered paid_db
  numbered-same before q line district of found row =
      let dk = key_at table.districts (part_at q.parts 0 ∷ part_at q.parts 1 ∷ []) in
      let line_there = sym (get-apart first_db (district_key at) district_paid q (apart-tables q (district_key at) (ap (λ t. eqb t 1) of))) ∙ found in
      put-cases first_db (district_key at) district_paid dk district row
      (λ here new. subst (λ d. order_number q <ℤ d_next_o_id d) new
      (before q line (three d_tax d_ytd next) of line_there (ap (fin.get first_db) here ∙ there-still)))
      (λ _ was. before q line district of line_there was)

  warehouse-kinds : (k : Key) (row : Cells) → Fits table.tables k row → k.table ≡ table.warehouses → map part_kind k.parts ≡ kind.Int ∷ []
  warehouse-kinds k row fits is = (subst (λ t. Fits table.tables (record { table = t; parts = k.parts }) row) is fits).0

  -- a warehouse's row at another key is one of another warehouse
  other-warehouse : (k : Key) (row : Cells) → fin.get db0 k ≡ Some row → k.table ≡ table.warehouses → ties k (warehouse_key at.w) ≡ false
      → int_eq at.w (part_at k.parts 0) ≡ false
  other-warehouse k row found of other = on (int_eq at.w (part_at k.parts 0)) refl
    where
      ties-at : (x y : Key) → x ≡ y → ties x y ≡ true
      ties-at x y e = subst (λ z. ties x z ≡ true) e (ties-self x)

      on : (b : Bool) → int_eq at.w (part_at k.parts 0) ≡ b → int_eq at.w (part_at k.parts 0) ≡ false
      on true is =
          let w_is : part_at k.parts 0 ≡ at.w = sym (tells_apart {R = int_cmp} exact_signed at.w (part_at k.parts 0) is) in
          let e : k ≡ warehouse_key at.w =
          λ i. record { table = of i; parts = one-part k.parts at.w (warehouse-kinds k row (consistent k row found) of) w_is i } in
          absurd (true≢false (sym (ties-at k (warehouse_key at.w) e) ∙ other))
      on false apart = apart

  below-db : (k : Key) (row : Cells) → k.table ≡ table.warehouses → ties k (warehouse_key at.w) ≡ false → fin.get paid_db k ≡ Some row
      → fin.get db0 k ≡ Some row
  below-db k row of other found =
      sym (get-apart first_db (district_key at) district_paid k (apart-tables k (district_key at) (ap (λ t. eqb t 1) of))
      ∙ get-apart db0 (warehouse_key at.w) paid_row k other) ∙ found

  new-amount : (row : Cells) → paid_row ≡ row → amount (warehouse_of (warehouse_key at.w) row) (paid_to at.w (facts_of paid_db)) ≡ Holds
  new-amount row new =
      let at0 : District = record { w = at.w; d = pos 0 } in
      let was = compared-is 1 at0 (paid_to at.w (facts_of db0)) w_ytd (each.amounts (warehouse_key at.w) (two w_tax w_ytd) refl warehouse_there) in
      let now : paid_to at.w (facts_of paid_db) ≡ w_ytd +ℤ a =
      paid-more at.w ∙ (λ i. was i +ℤ (if int_eq_equiv.refl at.w i then a else pos 0)) in
      ap (λ r. amount (warehouse_of (warehouse_key at.w) r) (paid_to at.w (facts_of paid_db))) (sym new)
      ∙ compared-holds 1 at0 (paid_to at.w (facts_of paid_db)) (w_ytd +ℤ a) now

  unpaid : (c : Condition) (t : Tally) → at_district c (row_of at (d_ytd +ℤ a) next) t ≡ at_district c (row_of at d_ytd next) t
  unpaid condition.Numbers t = refl
  unpaid condition.Gaps t = refl
  unpaid condition.Lines t = refl

  pub paid-holds : HoldsOf paid_db
  paid-holds = record {
    amounts = λ k row of found. amount_on k row of found (ties k (warehouse_key at.w)) refl;
    districts = λ c k row of found. district_on c k row of found (ties k (district_key at)) refl;
    lines = numbered-same (numbered-put db0 (warehouse_key at.w) paid_row each.lines refl (λ of. absurd (none of)));
  }
    where
      none : ◌≡◌ {A = ℕ} 0 6 → ⊥
      none e = omega (arith, e)

      amount_on : (k : Key) (row : Cells) → k.table ≡ table.warehouses → fin.get paid_db k ≡ Some row → (b : Bool) → ties k (warehouse_key at.w) ≡ b
          → amount (warehouse_of k row) (paid_to (part_at k.parts 0) (facts_of paid_db)) ≡ Holds
      amount_on k row of found true is =
          let here = tied k (warehouse_key at.w) is in
          let new : paid_row ≡ row = same-Some paid_row row
          (sym (get-apart first_db (district_key at) district_paid k (apart-tables k (district_key at) (ap (λ t. eqb t 1) of))
          ∙ fin.get-insert key_cmp_total db0 (warehouse_key at.w) paid_row k ∙ ap (λ b. cond b (Some paid_row) (fin.get db0 k)) is) ∙ found) in
          (λ i. amount (warehouse_of (here i) row) (paid_to (part_at ((here i).parts) 0) (facts_of paid_db))) ∙ new-amount row new
      amount_on k row of found false other =
          let v = part_at k.parts 0 in
          let was = below-db k row of other found in
          ap (amount (warehouse_of k row))
          (paid-more v ∙ ap (λ b. paid_to v (facts_of db0) +ℤ (if b then a else pos 0)) (other-warehouse k row was of other)
          ∙ sym (plus-none (paid_to v (facts_of db0))))
          ∙ each.amounts k row of was

      district_on : (c : Condition) (k : Key) (row : Cells) → k.table ≡ table.districts → fin.get paid_db k ≡ Some row → (b : Bool)
          → ties k (district_key at) ≡ b
          → at_district c (district_at_key k row) (tally_of (district_at k.parts) (facts_of paid_db)) ≡ Holds
      district_on c k row of found true is =
          let here = tied k (district_key at) is in
          let new : district_paid ≡ row = same-Some district_paid row
          (sym (fin.get-insert key_cmp_total first_db (district_key at) district_paid k
          ∙ ap (λ b. cond b (Some district_paid) (fin.get first_db k)) is) ∙ found) in
          (λ i. at_district c (district_at_key (here i) (sym new i)) (tally_of (district_at ((here i).parts)) (facts_of paid_db)))
          ∙ ap (at_district c (row_of at (d_ytd +ℤ a) next)) (tally-same at) ∙ unpaid c (tally_of at (facts_of db0))
          ∙ each.districts c (district_key at) (three d_tax d_ytd next) refl there
      district_on c k row of found false other =
          ap (at_district c (district_at_key k row)) (tally-same (district_at k.parts))
          ∙ each.districts c k row of
          (sym (get-apart first_db (district_key at) district_paid k other
          ∙ get-apart db0 (warehouse_key at.w) paid_row k (apart-tables k (warehouse_key at.w) (ap (λ t. eqb t 0) of))) ∙ found)
