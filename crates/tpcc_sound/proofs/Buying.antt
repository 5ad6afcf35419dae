-- A payment leaves sound rows, statement by statement.
use Rattle.std.proofs.Common.{◌≡◌, refl, sym, ap, subst, ◌∙◌, ℕ, ℤ, pos, ◌+ℤ◌, Bool, true, false, if◌then◌else◌, arith}
use Rattle.std.proofs.Common.{List, [], ◌∷◌, map, take, Option, Some, None, Ok, Err}
use Rattle.std.specs.Prelude.{slice_set, slice_index_or}
use Rattle.std.specs.FinMap as fin
use Rattle.aria_base.specs.Orders.{Cells, Database}
use Rattle.aria_base.specs.Schemas.{IsConsistent}
use Rattle.aria_base.specs.declared.calls.Arg.TheVariants as arg
use Rattle.aria_base.specs.declared.calls.Request.{Request}
use Rattle.aria_base.specs.declared.keys.Key.{Key}
use Rattle.aria_base.specs.declared.keys.Part.TheVariants as part
use Rattle.aria_base.specs.declared.limits.TheConstants.{MOST_COLUMNS}
use Rattle.aria_base.specs.declared.values.Value.{Value}
use Rattle.aria_base.specs.declared.values.Value.TheVariants as value
use Rattle.batch_rules.specs.Touches.{map_after}
use Rattle.batch_rules.specs.Trees.{set_at}
use Rattle.cat_builtin.specs.Warehouses as table
use Rattle.cat_builtin.specs.Warehouses.{warehouse, district, w_tax, w_ytd, d_tax, d_ytd, d_next_o_id, read_district}
use Rattle.cat_builtin.specs.Payments as sale
use Rattle.cat_builtin.specs.Words.{Reg, Eq, more, int}
use Rattle.proc_lang.specs.declared.ends.End.TheVariants as end
use Rattle.proc_lang.specs.declared.ends.Trap.TheVariants.{Absent}
use Rattle.proc_lang.specs.declared.limits.TheConstants.{MOST_FRONT}
use Rattle.proc_lang.specs.Steps.{Step, Let, Give}
use Rattle.proc_lang.specs.Syntax.{in_turn}
use Rattle.proc_lang.specs.Terms.{Term, Me, Front}
use Rattle.proc_lang.specs.Values.{Got, got, number, is_true, blank, me_of}
use Rattle.proc_lang.specs.Meaning.{Frame, Run, Next, set_to, set_all, step_run, steps_run, value_of, key_from, row_from, part_of, gives, begun, done, script}
use Rattle.proc_lang.specs.Meaning.{is_done}
use Rattle.tpcc_audit.specs.declared.facts.District.{District}
use Rattle.tpcc_routines.specs.Sound.{IsSound}
use Rattle.tpcc_sound.proofs.Leading.{ok-is, Leads, run-leads, with-leads, read-leads, write-leads, gives-leads, if-leads}
use Rattle.tpcc_sound.proofs.Ordering.{three, district_key, apart-tables, get-apart}
use Rattle.tpcc_sound.proofs.Paying.{two, warehouse_key, paid-holds, holds-other}
use Rattle.tpcc_sound.proofs.Points.{HoldsOf, sound-each}
use Rattle.tpcc_sound.proofs.Selling.{number-is, some-row, two-of, three-of}

-- a row with one result among its values
row-of-two : (a : Value) (g : Got Value) (row : Option Cells)
    → got (got (got g (λ v. Ok (a ∷ v ∷ []))) (λ vs. Ok (take MOST_COLUMNS vs))) (λ row. Ok (Some row)) ≡ Ok row
    → (v : Value) × (g ≡ Ok v) × (Some (a ∷ v ∷ []) ≡ row)
row-of-two a (Ok v) row is = (v, refl, ok-is (Some (a ∷ v ∷ [])) row is)
row-of-two a (Err t) row is = let no : ⊥ = cc in absurd no

row-of-three : (a b : Value) (g : Got Value) (row : Option Cells)
    → got (got (got g (λ v. Ok (a ∷ v ∷ b ∷ []))) (λ vs. Ok (take MOST_COLUMNS vs))) (λ row. Ok (Some row)) ≡ Ok row
    → (v : Value) × (g ≡ Ok v) × (Some (a ∷ v ∷ b ∷ []) ≡ row)
row-of-three a b (Ok v) row is = (v, refl, ok-is (Some (a ∷ v ∷ b ∷ [])) row is)
row-of-three a b (Err t) row is = let no : ⊥ = cc in absurd no

module _ (q : ℕ) (w d cw cd by id amount date : ℤ) where
  abbrev r : Request
  r = record {
    q = q;
    call = record {
      proc = 1;
      args = arg.Int w ∷ arg.Int d ∷ arg.Int cw ∷ arg.Int cd ∷ arg.Int by ∷ arg.Int id ∷ arg.Int amount ∷ arg.Int date ∷ [];
    };
  }

  abbrev at : District
  at = record { w = w; d = d }

  abbrev go : List Step → Next
  go steps = steps_run r (in_turn steps) [] done

  -- from here on the rows are sound, whatever the registers hold
  abbrev Stays : Next → Type 0
  Stays next = (f : Frame) (db : Database) → HoldsOf db → Leads IsSound (next f) db

  abbrev from_told : List Step
  from_told = Give (Reg sale.customer) ∷ Give sale.balance_after ∷ []

  told-stays : Stays (go from_told)
  told-stays f db holds =
      gives-leads IsSound (go (Give sale.balance_after ∷ [])) f (slice_index_or f.regs 6 (value.Int (pos 0))) db (λ g _.
      with-leads IsSound (value_of r [] g.regs sale.balance_after) (λ v. gives done g v) db
      (λ v _. gives-leads IsSound done g v db (λ h _ _. sound-each db holds)))

  abbrev from_entry : List Step
  from_entry = sale.write_payment ∷ from_told

  entry-stays : Stays (go from_entry)
  entry-stays f db holds =
      let columns = Reg sale.customer ∷ sale.customer_district ∷ sale.customer_warehouse ∷ district ∷ warehouse ∷ sale.date ∷ sale.amount ∷ [] in
      let pk : Key = record { table = 3; parts = part_of (me_of q) ∷ [] } in
      write-leads IsSound (key_from r [] f.regs 3 (Me ∷ [])) (got (row_from r [] f.regs columns) (λ row. Ok (Some row))) (go from_told) f db
      (λ k row g key some _.
      let new = some-row (row_from r [] f.regs columns) row some in
      subst (λ x. Leads IsSound (go from_told g) (set_at db x row)) (ok-is pk k key)
      (subst (λ x. Leads IsSound (go from_told g) (set_at db pk x)) new.2
      (told-stays g (fin.insert db pk new.0) (holds-other db pk new.0 (λ _. refl) refl (λ e. omega (arith, e)) holds))))

  abbrev from_customer_paid : List Step
  from_customer_paid = sale.pay_customer ∷ from_entry

  customer-stays : Stays (go from_customer_paid)
  customer-stays f db holds =
      let columns = Reg sale.c_last ∷ Reg sale.c_first ∷ Reg sale.c_credit ∷ Reg sale.c_discount ∷ sale.balance_after
      ∷ more sale.c_ytd_payment sale.amount ∷ more sale.c_payment_cnt (int 1) ∷ Reg sale.data_after ∷ [] in
      let ck : Key = record { table = 2; parts = part.Int cw ∷ part.Int cd ∷ part_of (slice_index_or f.regs 6 (value.Int (pos 0))) ∷ [] } in
      write-leads IsSound (key_from r [] f.regs 2 sale.customer_key) (got (row_from r [] f.regs columns) (λ row. Ok (Some row))) (go from_entry) f db
      (λ k row g key some _.
      let new = some-row (row_from r [] f.regs columns) row some in
      subst (λ x. Leads IsSound (go from_entry g) (set_at db x row)) (ok-is ck k key)
      (subst (λ x. Leads IsSound (go from_entry g) (set_at db ck x)) new.2
      (entry-stays g (fin.insert db ck new.0) (holds-other db ck new.0 (λ _. refl) refl (λ e. omega (arith, e)) holds))))

  -- a register gets a value, or the run is not done
  let-stays : (n : ℕ) (t : Term) (next : Next) → Stays next → (f : Frame) (db : Database) → HoldsOf db
      → Leads IsSound (step_run r (Let n t) [] next f) db
  let-stays n t next stays f db holds =
      with-leads IsSound (value_of r [] f.regs t) (λ v. next (set_to f (slice_set f.regs n v))) db
      (λ v _. stays (set_to f (slice_set f.regs n v)) db holds)

  abbrev from_note : List Step
  from_note = sale.note_payment ∷ from_customer_paid

  note-stays : Stays (go from_note)
  note-stays f db holds =
      let next = go from_customer_paid in
      let one : Run = step_run r (Let sale.data_after (Front sale.entry (Reg sale.c_data) MOST_FRONT)) [] next f in
      let other : Run = step_run r (Let sale.data_after (Reg sale.c_data)) [] next f in
      with-leads IsSound (value_of r [] f.regs (Eq (Reg sale.c_credit) (int 1))) (λ v. if is_true v then one else other) db
      (λ v _. if-leads IsSound (is_true v) one other db
      (let-stays sale.data_after (Front sale.entry (Reg sale.c_data) MOST_FRONT) next customer-stays f db holds)
      (let-stays sale.data_after (Reg sale.c_data) next customer-stays f db holds))

  abbrev from_customer : List Step
  from_customer = sale.read_customer ∷ from_note

  read-stays : Stays (go from_customer)
  read-stays f db holds =
      let rs = sale.c_last ∷ sale.c_first ∷ sale.c_credit ∷ sale.c_discount ∷ sale.c_balance ∷ sale.c_ytd_payment ∷ sale.c_payment_cnt
      ∷ sale.c_data ∷ [] in
      read-leads IsSound (key_from r [] f.regs 2 sale.customer_key) (end.Trap Absent) rs (go from_note) f db refl
      (λ k row g _ _ _. note-stays g db holds)

  abbrev from_find : List Step
  from_find = sale.find_customer ∷ from_customer

  find-stays : Stays (go from_find)
  find-stays f db holds =
      let next = go from_customer in
      let one : Run = steps_run r (in_turn (sale.count_namesakes ∷ sale.find_namesake ∷ [])) [] next f in
      let other : Run = steps_run r (in_turn (Let sale.customer sale.id ∷ [])) [] next f in
      with-leads IsSound (value_of r [] f.regs sale.by_name) (λ v. if is_true v then one else other) db
      (λ v _. if-leads IsSound (is_true v) one other db
      (read-leads IsSound (key_from r [] f.regs 9 (sale.customer_warehouse ∷ sale.customer_district ∷ sale.id ∷ [])) (end.Back 2)
      (sale.namesakes ∷ []) (steps_run r (in_turn (sale.find_namesake ∷ [])) [] next) f db refl
      (λ k row g _ _ _.
      read-leads IsSound (key_from r [] g.regs 10 (sale.customer_warehouse ∷ sale.customer_district ∷ sale.id ∷ sale.middle ∷ []))
      (end.Trap Absent) (sale.customer ∷ []) next g db refl (λ k row h _ _ _. read-stays h db holds)))
      (let-stays sale.customer sale.id next read-stays f db holds))

  -- ---- the amounts of the warehouse and of the district

  abbrev first_regs : List Value
  first_regs = map blank sale.payment.regs

  abbrev warehouse_regs : ℤ → ℤ → List Value
  warehouse_regs a b = set_all (0 ∷ 1 ∷ []) (two a b) first_regs

  abbrev from_district_paid : List Step
  from_district_paid = sale.pay_district ∷ from_find

  abbrev from_district : List Step
  from_district = read_district ∷ from_district_paid

  abbrev from_warehouse_paid : List Step
  from_warehouse_paid = sale.pay_warehouse ∷ from_district

  module _ (db0 : Database) (consistent : IsConsistent table.tables db0) (each : HoldsOf db0) where
    district-paid : (a b tax ytd next : ℤ) (warehouse_there : fin.get db0 (warehouse_key w) ≡ Some (two a b))
        → fin.get db0 (district_key at) ≡ Some (three tax ytd next)
        → (f : Frame) → f.regs ≡ set_all (2 ∷ 3 ∷ 4 ∷ []) (three tax ytd next) (warehouse_regs a b)
        → Leads IsSound (go from_district_paid f) (fin.insert db0 (warehouse_key w) (two a (b +ℤ amount)))
    district-paid a b tax ytd next warehouse_there there f regs =
        let db = fin.insert db0 (warehouse_key w) (two a (b +ℤ amount)) in
        let row_got : List Value → Got (Option Cells) = λ regs.
        got (row_from r [] regs (Reg d_tax ∷ more d_ytd sale.amount ∷ Reg d_next_o_id ∷ [])) (λ row. Ok (Some row)) in
        write-leads IsSound (key_from r [] f.regs 1 (warehouse ∷ district ∷ [])) (row_got f.regs) (go from_find) f db
        (λ k row g key some _.
        let raised = row-of-three (value.Int tax) (value.Int next) (number (ytd +ℤ amount)) row (ap row_got (sym regs) ∙ some) in
        let new : Some (three tax (ytd +ℤ amount) next) ≡ row =
        ap (λ v. Some (value.Int tax ∷ v ∷ value.Int next ∷ [])) (sym (number-is (ytd +ℤ amount) raised.0 raised.1)) ∙ raised.2 in
        subst (λ x. Leads IsSound (go from_find g) (set_at db x row)) (ok-is (district_key at) k key)
        (subst (λ x. Leads IsSound (go from_find g) (set_at db (district_key at) x)) new
        (find-stays g (fin.insert db (district_key at) (three tax (ytd +ℤ amount) next))
        (paid-holds db0 at a b tax ytd next amount consistent each warehouse_there there))))

    warehouse-paid : (a b : ℤ) → fin.get db0 (warehouse_key w) ≡ Some (two a b) → (f : Frame) → f.regs ≡ warehouse_regs a b
        → Leads IsSound (go from_warehouse_paid f) db0
    warehouse-paid a b there f regs =
        let db = fin.insert db0 (warehouse_key w) (two a (b +ℤ amount)) in
        let row_got : List Value → Got (Option Cells) = λ regs.
        got (row_from r [] regs (Reg w_tax ∷ more w_ytd sale.amount ∷ [])) (λ row. Ok (Some row)) in
        write-leads IsSound (key_from r [] f.regs 0 (warehouse ∷ [])) (row_got f.regs) (go from_district) f db0
        (λ k row g key some same.
        let raised = row-of-two (value.Int a) (number (b +ℤ amount)) row (ap row_got (sym regs) ∙ some) in
        let new : Some (two a (b +ℤ amount)) ≡ row =
        ap (λ v. Some (value.Int a ∷ v ∷ [])) (sym (number-is (b +ℤ amount) raised.0 raised.1)) ∙ raised.2 in
        subst (λ x. Leads IsSound (go from_district g) (set_at db0 x row)) (ok-is (warehouse_key w) k key)
        (subst (λ x. Leads IsSound (go from_district g) (set_at db0 (warehouse_key w) x)) new
        (read-leads IsSound (key_from r [] g.regs 1 (warehouse ∷ district ∷ [])) (end.Trap Absent) (2 ∷ 3 ∷ 4 ∷ []) (go from_district_paid) g db refl
        (λ k row h key found again.
        let dk = district_key at in
        let was = sym (get-apart db0 (warehouse_key w) (two a (b +ℤ amount)) dk (apart-tables dk (warehouse_key w) refl))
        ∙ ap (fin.get db) (ok-is dk k key) ∙ found in
        let is = three-of row (consistent dk row was).1 in
        district-paid a b is.0 is.1 is.2 there (was ∙ ap Some is.3) h
        (again ∙ (λ i. set_all (2 ∷ 3 ∷ 4 ∷ []) (is.3 i) ((same ∙ regs) i)))))))

    -- a payment, called with these numbers
    pub payment-keeps : IsSound db0 → IsSound (map_after is_done (script sale.payment.body sale.payment.regs r) db0)
    payment-keeps sound =
        run-leads IsSound (script sale.payment.body sale.payment.regs r) db0 sound
        (read-leads IsSound (key_from r [] first_regs 0 (warehouse ∷ [])) (end.Trap Absent) (0 ∷ 1 ∷ []) (go from_warehouse_paid)
        (begun sale.payment.regs) db0 refl
        (λ k row g key found same.
        let was = ap (fin.get db0) (ok-is (warehouse_key w) k key) ∙ found in
        let is = two-of row (consistent (warehouse_key w) row was).1 in
        warehouse-paid is.0 is.1 (was ∙ ap Some is.2) g (same ∙ ap (λ row. set_all (0 ∷ 1 ∷ []) row first_regs) is.2)))
