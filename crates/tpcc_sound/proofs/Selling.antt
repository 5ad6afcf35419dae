-- A new order leaves sound rows, statement by statement.
use Rattle.std.proofs.Common.{◌≡◌, refl, sym, ap, subst, ◌∙◌, ℕ, suc, ◌+◌, ◌<◌, ℤ, pos, ◌+ℤ◌, Bool, true, false, not, ◌&&◌, eqb}
use Rattle.std.proofs.Common.{if◌then◌else◌, List, [], ◌∷◌, map, length, take, Option, Some, None, Ok, Err, arith}
use Rattle.std.specs.Prelude.{codes, slice_set, slice_index_or}
use Rattle.std.proofs.Common.{lit<, length-set, get_or-set_same, get_or-set_other}
use Rattle.std.specs.List.{list_all}
use Rattle.std.specs.FinMap as fin
use Rattle.std.proofs.lemmas.Bool.{and_parts, eqb-false}
use Rattle.std.proofs.lemmas.Int.{ints}
use Rattle.aria_base.specs.Kinds.{value_kind}
use Rattle.aria_base.specs.Orders.{Cells, Database}
use Rattle.aria_base.specs.Schemas.{IsConsistent}
use Rattle.aria_base.specs.declared.calls.Arg.TheVariants as arg
use Rattle.aria_base.specs.declared.calls.Request.{Request}
use Rattle.aria_base.specs.declared.keys.Part.TheVariants as part
use Rattle.aria_base.specs.declared.values.Kind.TheVariants as kind
use Rattle.aria_base.specs.declared.values.Value.{Value}
use Rattle.aria_base.specs.declared.values.Value.TheVariants as value
use Rattle.cat_builtin.specs.Warehouses as table
use Rattle.cat_builtin.specs.NewOrders as sale
use Rattle.cat_builtin.specs.Words.{Reg, Len, And, Eq, Le, Add, Mul, more, int, raise}
use Rattle.cat_builtin.specs.Warehouses.{warehouse, district, d_tax, d_ytd, d_next_o_id, read_district}
use Rattle.aria_base.specs.declared.limits.TheConstants.{MOST_COLUMNS}
use Rattle.batch_rules.specs.Touches.{map_after}
use Rattle.batch_rules.specs.Trees.{set_at}
use Rattle.proc_lang.specs.declared.ends.End.TheVariants as end
use Rattle.proc_lang.specs.declared.ends.Trap.TheVariants.{Absent, Overflow}
use Rattle.proc_lang.specs.Steps.{Step, Let, If, Each, Give}
use Rattle.proc_lang.specs.Syntax.{in_turn}
use Rattle.proc_lang.specs.Terms.{Term}
use Rattle.proc_lang.specs.Values.{Got, got, number, is_i64, is_true, int_of, blank}
use Rattle.proc_lang.specs.Meaning.{Frame, Run, Next, set_to, set_all, for_each, step_run, steps_run, value_of, key_from, row_from, part_of, gives, begun, done, script, is_done}
use Rattle.tpcc_audit.specs.declared.facts.District.{District}
use Rattle.tpcc_routines.specs.Answers.{key_at}
use Rattle.tpcc_sound.proofs.Leading.{ok-is, Leads, run-leads, with-leads, read-leads, write-leads, gives-leads, if-leads}
use Rattle.tpcc_sound.proofs.Ordering.{IsMid, counted_db, order_key, open_key, mid-begins, mid-stock, mid-line-put, mid-holds, district_key, three}
use Rattle.tpcc_sound.proofs.Points.{HoldsOf, sound-each}
use Rattle.tpcc_routines.specs.Sound.{IsSound}

-- ---- results

pub number-is : (z : ℤ) (v : Value) → number z ≡ Ok v → v ≡ value.Int z
number-is z v e = on (is_i64 z) e
  where
    on : (b : Bool) → (if b then Ok (value.Int z) else Err Overflow) ≡ Ok v → v ≡ value.Int z
    on true e = sym (ok-is (value.Int z) v e)
    on false e = let no : ⊥ = cc in absurd no

-- a row that is written is some row
pub some-row : (g : Got Cells) (r : Option Cells) → got g (λ row. Ok (Some row)) ≡ Ok r → (row : Cells) × (g ≡ Ok row) × (Some row ≡ r)
some-row (Ok row) r e = (row, refl, ok-is (Some row) r e)
some-row (Err t) r e = let no : ⊥ = cc in absurd no

-- ---- the registers of the order's number and of the line's

abbrev zero_value : Value
zero_value = value.Int (pos 0)

abbrev is_free : ℕ → Bool
is_free n = not (eqb 5 n) && not (eqb 16 n)

record IsSet (regs : List Value) (o : ℤ) (m : ℕ) : Type 0 where
  order : slice_index_or regs 5 zero_value ≡ value.Int o
  number : slice_index_or regs 16 zero_value ≡ value.Int (pos m)
  enough : length regs ≡ 26

not-is : (b : Bool) → not b ≡ true → b ≡ false
not-is true e = sym e
not-is false e = refl

set-free : (regs : List Value) (o : ℤ) (m n : ℕ) (v : Value) → is_free n ≡ true → IsSet regs o m → IsSet (slice_set regs n v) o m
set-free regs o m n v free s =
    let parts = and_parts (not (eqb 5 n)) (not (eqb 16 n)) free in
    record {
      order = get_or-set_other regs n 5 v zero_value (eqb-false 5 n (not-is (eqb 5 n) parts.0)) ∙ s.order;
      number = get_or-set_other regs n 16 v zero_value (eqb-false 16 n (not-is (eqb 16 n) parts.1)) ∙ s.number;
      enough = length-set regs n v ∙ s.enough;
    }

set-all-free : (ns : List ℕ) (row regs : List Value) (o : ℤ) (m : ℕ) → list_all is_free ns ≡ true → IsSet regs o m → IsSet (set_all ns row regs) o m
set-all-free [] row regs o m free s = s
set-all-free (n ∷ ns) [] regs o m free s = s
set-all-free (n ∷ ns) (v ∷ vs) regs o m free s =
    let parts = and_parts (is_free n) (list_all is_free ns) free in
    set-all-free ns vs (slice_set regs n v) o m parts.1 (set-free regs o m n v parts.0 s)

set-number : (regs : List Value) (o : ℤ) (m k : ℕ) → IsSet regs o m → IsSet (slice_set regs 16 (value.Int (pos k))) o k
set-number regs o m k s =
    let enough : 16 < length regs = subst (λ n. 16 < n) (sym s.enough) (lit< tt) in
    record {
      order = get_or-set_other regs 16 5 (value.Int (pos k)) zero_value (λ e. omega (arith, e)) ∙ s.order;
      number = get_or-set_same regs 16 (value.Int (pos k)) zero_value enough;
      enough = length-set regs 16 (value.Int (pos k)) ∙ s.enough;
    }

-- ---- one line

module _ (P : Database → Type 0) (q : ℕ) (w d c e : ℤ) (tuples : List (List ℤ)) where
  abbrev r : Request
  r = record { q = q; call = record { proc = 0; args = arg.Int w ∷ arg.Int d ∷ arg.Int c ∷ arg.Int e ∷ arg.List tuples ∷ [] } }

  abbrev at : District
  at = record { w = w; d = d }

  abbrev go : List Step → List ℤ → Next → Next
  go steps item after = steps_run r (in_turn steps) item after

  abbrev Behind : Next → Frame → Database → Type 0
  Behind after f db = (g : Frame) → g.regs ≡ f.regs → Leads P (after g) db

  -- ---- one line, from its last statement to its first

  abbrev told_amount : List Step
  told_amount = Give (Reg sale.amount) ∷ []

  abbrev told_brand : List Step
  told_brand = sale.give_brand ∷ told_amount

  abbrev told_rest : List Step
  told_rest = Give (Reg sale.rest) ∷ told_brand

  amount-leads : (item : List ℤ) (after : Next) (f : Frame) (db : Database) → Behind after f db → Leads P (go told_amount item after f) db
  amount-leads item after f db so = gives-leads P after f (slice_index_or f.regs 25 zero_value) db so

  brand-leads : (item : List ℤ) (after : Next) (f : Frame) (db : Database) → Behind after f db → Leads P (go told_brand item after f) db
  brand-leads item after f db so =
      let next = go told_amount item after in
      let told : (v : Value) → Leads P (gives next f v) db = λ v. gives-leads P next f v db
      (λ g same. amount-leads item after g db (λ h again. so h (again ∙ same))) in
      with-leads P (value_of r item f.regs (And (Eq (Reg sale.i_original) (int 1)) (Eq (Reg sale.s_original) (int 1))))
      (λ v. if is_true v then gives next f (value.Text (codes "B")) else gives next f (value.Text (codes "G"))) db
      (λ v is. if-leads P (is_true v) (gives next f (value.Text (codes "B"))) (gives next f (value.Text (codes "G"))) db
      (told (value.Text (codes "B"))) (told (value.Text (codes "G"))))

  rest-leads : (item : List ℤ) (after : Next) (f : Frame) (db : Database) → Behind after f db → Leads P (go told_rest item after f) db
  rest-leads item after f db so = gives-leads P (go told_brand item after) f (slice_index_or f.regs 24 zero_value) db
      (λ g same. brand-leads item after g db (λ h again. so h (again ∙ same)))

  module _ (o n : ℤ) (db0 : Database) (tax ytd : ℤ) (consistent : IsConsistent table.tables db0) (each : HoldsOf db0)
      (there : fin.get db0 (district_key at) ≡ Some (three tax ytd o)) where
    abbrev Mid : ℕ → Database → Type 0
    Mid m db = IsMid db0 at tax ytd o n consistent each there m db

    -- what follows on a line, of which so many are there
    abbrev Lines : Next → ℕ → Type 0
    Lines after m = (g : Frame) (db : Database) → IsSet g.regs o m → Mid m db → Leads P (after g) db

    same-set : (f g : Frame) (m : ℕ) → g.regs ≡ f.regs → IsSet f.regs o m → IsSet g.regs o m
    same-set f g m same s = subst (λ regs. IsSet regs o m) (sym same) s

    abbrev written : List Step
    written = sale.write_line ∷ told_rest

    written-leads : (item : List ℤ) (after : Next) (m : ℕ) (f : Frame) (db : Database) → IsSet f.regs o (m + 1) → Mid m db → Lines after (m + 1)
        → Leads P (go written item after f) db
    written-leads item after m f db s mid so =
        write-leads P (key_from r item f.regs 6 (warehouse ∷ district ∷ Reg sale.order ∷ Reg sale.number ∷ []))
        (got (row_from r item f.regs (sale.item ∷ sale.supply ∷ int 0 ∷ sale.quantity ∷ Reg sale.amount ∷ [])) (λ row. Ok (Some row)))
        (go told_rest item after) f db
        (λ k row g key some same.
        let line = some-row (row_from r item f.regs (sale.item ∷ sale.supply ∷ int 0 ∷ sale.quantity ∷ Reg sale.amount ∷ [])) row some in
        let lk = key_at table.order_lines (w ∷ d ∷ o ∷ pos (m + 1) ∷ []) in
        let here : lk ≡ k =
        (λ i. record { table = 6; parts = part.Int w ∷ part.Int d ∷ part_of (sym s.order i) ∷ part_of (sym s.number i) ∷ [] })
        ∙ ok-is (record {
          table = 6;
          parts = part.Int w ∷ part.Int d ∷ part_of (slice_index_or f.regs 5 zero_value)
              ∷ part_of (slice_index_or f.regs 16 zero_value) ∷ [];
        }) k key in
        subst (λ x. Leads P (go told_rest item after g) (set_at db x row)) here
        (subst (λ x. Leads P (go told_rest item after g) (set_at db lk x)) line.2
        (rest-leads item after g (fin.insert db lk line.0) (λ h again.
        so h (fin.insert db lk line.0) (same-set f h (m + 1) (again ∙ same) s)
        (mid-line-put db0 at tax ytd o n consistent each there m db line.0 mid)))))

    abbrev summed : List Step
    summed = raise sale.sum (Reg sale.amount) ∷ written

    summed-leads : (item : List ℤ) (after : Next) (m : ℕ) (f : Frame) (db : Database) → IsSet f.regs o (m + 1) → Mid m db → Lines after (m + 1)
        → Leads P (go summed item after f) db
    summed-leads item after m f db s mid so =
        with-leads P (value_of r item f.regs (more sale.sum (Reg sale.amount))) (λ v. go written item after (set_to f (slice_set f.regs 15 v))) db
        (λ v _. written-leads item after m (set_to f (slice_set f.regs 15 v)) db (set-free f.regs o (m + 1) 15 v refl s) mid so)

    abbrev priced : List Step
    priced = sale.price_line ∷ summed

    priced-leads : (item : List ℤ) (after : Next) (m : ℕ) (f : Frame) (db : Database) → IsSet f.regs o (m + 1) → Mid m db → Lines after (m + 1)
        → Leads P (go priced item after f) db
    priced-leads item after m f db s mid so =
        with-leads P (value_of r item f.regs (Mul sale.quantity (Reg sale.i_price))) (λ v. go summed item after (set_to f (slice_set f.regs 25 v))) db
        (λ v _. summed-leads item after m (set_to f (slice_set f.regs 25 v)) db (set-free f.regs o (m + 1) 25 v refl s) mid so)

    abbrev stocked : List Step
    stocked = sale.write_stock ∷ priced

    stocked-leads : (item : List ℤ) (after : Next) (m : ℕ) (f : Frame) (db : Database) → IsSet f.regs o (m + 1) → Mid m db → Lines after (m + 1)
        → Leads P (go stocked item after f) db
    stocked-leads item after m f db s mid so =
        let columns = Reg sale.rest ∷ more sale.s_ytd sale.quantity ∷ more sale.s_order_cnt (int 1) ∷ more sale.s_remote_cnt sale.is_remote
        ∷ Reg sale.s_original ∷ [] in
        let from = slice_index_or item 1 (pos 0) in
        let i = slice_index_or item 0 (pos 0) in
        let sk = key_at table.stocks (from ∷ i ∷ []) in
        write-leads P (key_from r item f.regs 8 (sale.supply ∷ sale.item ∷ [])) (got (row_from r item f.regs columns) (λ row. Ok (Some row)))
        (go priced item after) f db
        (λ k row g key some same.
        let stock = some-row (row_from r item f.regs columns) row some in
        subst (λ x. Leads P (go priced item after g) (set_at db x row)) (ok-is sk k key)
        (subst (λ x. Leads P (go priced item after g) (set_at db sk x)) stock.2
        (priced-leads item after m g (fin.insert db sk stock.0) (same-set f g (m + 1) same s)
        (mid-stock db0 at tax ytd o n consistent each there m db from i stock.0 mid) so)))

    abbrev left : List Step
    left = sale.take_stock ∷ stocked

    left-leads : (item : List ℤ) (after : Next) (m : ℕ) (f : Frame) (db : Database) → IsSet f.regs o (m + 1) → Mid m db → Lines after (m + 1)
        → Leads P (go left item after f) db
    left-leads item after m f db s mid so =
        let next = go stocked item after in
        let one : Frame → Run = λ f. step_run r (Let sale.rest sale.left_over) item next f in
        let other : Frame → Run = λ f. step_run r (Let sale.rest (Add sale.left_over (int 91))) item next f in
        let set : (t : Term) → Leads P (step_run r (Let sale.rest t) item next f) db = λ t.
        with-leads P (value_of r item f.regs t) (λ v. next (set_to f (slice_set f.regs 24 v))) db
        (λ v _. stocked-leads item after m (set_to f (slice_set f.regs 24 v)) db (set-free f.regs o (m + 1) 24 v refl s) mid so) in
        with-leads P (value_of r item f.regs (Le (int 10) sale.left_over)) (λ v. if is_true v then one f else other f) db
        (λ v _. if-leads P (is_true v) (one f) (other f) db (set sale.left_over) (set (Add sale.left_over (int 91))))

    abbrev found : List Step
    found = sale.read_stock ∷ left

    found-leads : (item : List ℤ) (after : Next) (m : ℕ) (f : Frame) (db : Database) → IsSet f.regs o (m + 1) → Mid m db → Lines after (m + 1)
        → Leads P (go found item after f) db
    found-leads item after m f db s mid so =
        let rs = sale.s_quantity ∷ sale.s_ytd ∷ sale.s_order_cnt ∷ sale.s_remote_cnt ∷ sale.s_original ∷ [] in
        read-leads P (key_from r item f.regs 8 (sale.supply ∷ sale.item ∷ [])) (end.Trap Absent) rs (go left item after) f db refl
        (λ k row g key is same. left-leads item after m g db
        (subst (λ regs. IsSet regs o (m + 1)) (sym same) (set-all-free rs row f.regs o (m + 1) refl s)) mid so)

    abbrev asked : List Step
    asked = sale.read_item ∷ found

    asked-leads : (item : List ℤ) (after : Next) (m : ℕ) (f : Frame) (db : Database) → IsSet f.regs o (m + 1) → Mid m db → Lines after (m + 1)
        → Leads P (go asked item after f) db
    asked-leads item after m f db s mid so =
        let rs = sale.i_price ∷ sale.i_original ∷ [] in
        read-leads P (key_from r item f.regs 7 (sale.item ∷ [])) (end.Back 1) rs (go found item after) f db refl
        (λ k row g key is same. found-leads item after m g db
        (subst (λ regs. IsSet regs o (m + 1)) (sym same) (set-all-free rs row f.regs o (m + 1) refl s)) mid so)

    line-leads : (item : List ℤ) (after : Next) (m : ℕ) (f : Frame) (db : Database) → IsSet f.regs o m → Mid m db → Lines after (m + 1)
        → Leads P (go sale.order_line item after f) db
    line-leads item after m f db s mid so =
        with-leads P (value_of r item f.regs (more sale.number (int 1))) (λ v. go asked item after (set_to f (slice_set f.regs 16 v))) db
        (λ v is.
        let z : int_of (slice_index_or f.regs 16 zero_value) +ℤ pos 1 ≡ pos (m + 1) = ap (λ v. int_of v +ℤ pos 1) s.number ∙ omega (arith, ints) in
        let v_is : value.Int (pos (m + 1)) ≡ v =
        sym (number-is (int_of (slice_index_or f.regs 16 zero_value) +ℤ pos 1) v is ∙ ap value.Int z) in
        subst (λ v. Leads P (go asked item after (set_to f (slice_set f.regs 16 v))) db) v_is
        (asked-leads item after m (set_to f (slice_set f.regs 16 (value.Int (pos (m + 1))))) db (set-number f.regs o m (m + 1) s) mid so))

    -- ---- all lines

    lines-lead : (ts : List (List ℤ)) (after : Next) (m : ℕ) (f : Frame) (db : Database) → IsSet f.regs o m → Mid m db → Lines after (m + length ts)
        → Leads P (for_each (go sale.order_line) ts after f) db
    lines-lead [] after m f db s mid so =
        let none : m ≡ m + 0 = omega arith in so f db (subst (IsSet f.regs o) none s) (subst (λ m. Mid m db) none mid)
    lines-lead (t ∷ ts) after m f db s mid so =
        let all : m + suc (length ts) ≡ m + 1 + length ts = omega arith in
        line-leads t (for_each (go sale.order_line) ts after) m f db s mid
        (λ g next_db s mid. lines-lead ts after (m + 1) g next_db s mid (subst (Lines after) all so))

    -- ---- from the order's number on

    abbrev finished : List Step
    finished = Give sale.total ∷ []

    finish-leads : (f : Frame) (db : Database) → P db → Leads P (go finished [] done f) db
    finish-leads f db holds =
        with-leads P (value_of r [] f.regs sale.total) (λ v. gives done f v) db
        (λ v _. gives-leads P done f v db (λ g _ _. holds))

    abbrev all_lines : List Step
    all_lines = Each sale.lines (in_turn sale.order_line) ∷ finished

    abbrev from_number : List Step
    from_number = Let sale.number (int 0) ∷ all_lines

    abbrev from_sum : List Step
    from_sum = Let sale.sum (int 0) ∷ from_number

    abbrev from_told : List Step
    from_told = Give (Reg sale.order) ∷ from_sum

    module _ (ends : (db : Database) → Mid (length tuples) db → P db) where
      told-leads : (f : Frame) (db : Database) → IsSet f.regs o 0 → Mid 0 db → Leads P (go from_told [] done f) db
      told-leads f db s mid =
          gives-leads P (go from_sum [] done) f (slice_index_or f.regs 5 zero_value) db (λ g same.
          let s_sum = set-free g.regs o 0 15 (value.Int (pos 0)) refl (same-set f g 0 same s) in
          let regs = slice_set (slice_set g.regs 15 (value.Int (pos 0))) 16 (value.Int (pos 0)) in
          lines-lead tuples (go finished [] done) 0 (set_to g regs) db (set-number (slice_set g.regs 15 (value.Int (pos 0))) o 0 0 s_sum) mid
          (λ h after_db _ all.
          let none : 0 + length tuples ≡ length tuples = omega arith in
          finish-leads h after_db (ends after_db (subst (λ m. Mid m after_db) none all))))

      abbrev from_open : List Step
      from_open = sale.open_order ∷ from_told

      abbrev from_order : List Step
      from_order = sale.write_order ∷ from_open

      -- the order, and its entry among the open ones
      order-leads : (f : Frame) (counted : Database) → counted ≡ counted_db db0 at tax ytd o n consistent each there → n ≡ pos (length tuples)
          → IsSet f.regs o 0 → Leads P (go from_order [] done f) counted
      order-leads f counted is all s =
          let ok = order_key db0 at tax ytd o n consistent each there in
          let opens = open_key db0 at tax ytd o n consistent each there in
          write-leads P (key_from r [] f.regs 5 (warehouse ∷ district ∷ Reg sale.order ∷ []))
          (got (row_from r [] f.regs (sale.customer ∷ sale.entry ∷ int 0 ∷ Len sale.lines ∷ Reg sale.all_local ∷ [])) (λ row. Ok (Some row)))
          (go from_open [] done) f counted
          (λ k row g key some same.
          let new = value.Int c ∷ value.Int e ∷ value.Int (pos 0) ∷ value.Int (pos (length tuples)) ∷ slice_index_or f.regs 14 zero_value ∷ [] in
          let here : ok ≡ k =
          (λ i. record { table = 5; parts = part.Int w ∷ part.Int d ∷ part_of (sym s.order i) ∷ [] })
          ∙ ok-is (record { table = 5; parts = part.Int w ∷ part.Int d ∷ part_of (slice_index_or f.regs 5 zero_value) ∷ [] }) k key in
          let s_g = same-set f g 0 same s in
          subst (λ x. Leads P (go from_open [] done g) (set_at counted x row)) here
          (subst (λ x. Leads P (go from_open [] done g) (set_at counted ok x)) (ok-is (Some new) row some)
          (write-leads P (key_from r [] g.regs 4 (warehouse ∷ district ∷ Reg sale.order ∷ [])) (Ok (Some [])) (go from_told [] done) g
          (fin.insert counted ok new)
          (λ k row h key some same.
          let here : opens ≡ k =
          (λ i. record { table = 4; parts = part.Int w ∷ part.Int d ∷ part_of (sym s_g.order i) ∷ [] })
          ∙ ok-is (record { table = 4; parts = part.Int w ∷ part.Int d ∷ part_of (slice_index_or g.regs 5 zero_value) ∷ [] }) k key in
          subst (λ x. Leads P (go from_told [] done h) (set_at (fin.insert counted ok new) x row)) here
          (subst (λ x. Leads P (go from_told [] done h) (set_at (fin.insert counted ok new) opens x)) (ok-is (Some []) row some)
          (told-leads h (fin.insert (fin.insert counted ok new) opens []) (same-set g h 0 same s_g)
          (subst (λ db. Mid 0 (fin.insert (fin.insert db ok new) opens [])) (sym is)
          (mid-begins db0 at tax ytd o n consistent each there new (sym all)))))))))

      -- whether a line is remote changes one register
      remote-lead : (ts : List (List ℤ)) (after : Next) (f : Frame) (db : Database) → IsSet f.regs o 0
          → ((g : Frame) → IsSet g.regs o 0 → Leads P (after g) db)
          → Leads P (for_each (go (If sale.is_remote (in_turn (Let sale.all_local (int 0) ∷ [])) (in_turn []) ∷ [])) ts after f) db
      remote-lead [] after f db s so = so f s
      remote-lead (t ∷ ts) after f db s so =
          let next = for_each (go (If sale.is_remote (in_turn (Let sale.all_local (int 0) ∷ [])) (in_turn []) ∷ [])) ts after in
          let set = set_to f (slice_set f.regs 14 (value.Int (pos 0))) in
          with-leads P (value_of r t f.regs sale.is_remote) (λ v. if is_true v then next set else next f) db
          (λ v _. if-leads P (is_true v) (next set) (next f) db
          (remote-lead ts after set db (set-free f.regs o 0 14 (value.Int (pos 0)) refl s) so) (remote-lead ts after f db s so))

      abbrev from_remote : List Step
      from_remote = sale.note_remote ∷ from_order

      abbrev from_local : List Step
      from_local = Let sale.all_local (int 1) ∷ from_remote

      abbrev from_customer : List Step
      from_customer = sale.read_customer ∷ from_local

      customer-leads : (f : Frame) (counted : Database) → counted ≡ counted_db db0 at tax ytd o n consistent each there → n ≡ pos (length tuples)
          → IsSet f.regs o 0 → Leads P (go from_customer [] done f) counted
      customer-leads f counted is all s =
          let rs = sale.c_last ∷ sale.c_first ∷ sale.c_credit ∷ sale.c_discount ∷ sale.c_balance ∷ sale.c_ytd_payment ∷ sale.c_payment_cnt
          ∷ sale.c_data ∷ [] in
          read-leads P (key_from r [] f.regs 2 (warehouse ∷ district ∷ sale.customer ∷ [])) (end.Trap Absent) rs (go from_local [] done) f counted refl
          (λ k row g key found same.
          let s_g = subst (λ regs. IsSet regs o 0) (sym same) (set-all-free rs row f.regs o 0 refl s) in
          let regs = slice_set g.regs 14 (value.Int (pos 1)) in
          remote-lead tuples (go from_order [] done) (set_to g regs) counted (set-free g.regs o 0 14 (value.Int (pos 1)) refl s_g)
          (λ h s_h. order-leads h counted is all s_h))

-- ---- the whole

-- a warehouse's row has two numbers, and a district's three
pub two-of : (row : Cells) → map value_kind row ≡ kind.Int ∷ kind.Int ∷ [] → (a : ℤ) × (b : ℤ) × (row ≡ value.Int a ∷ value.Int b ∷ [])
two-of (value.Int a ∷ value.Int b ∷ []) kinds = (a, b, refl)
two-of _ kinds = let no : ⊥ = cc in absurd no

pub three-of : (row : Cells) → map value_kind row ≡ kind.Int ∷ kind.Int ∷ kind.Int ∷ [] → (a : ℤ) × (b : ℤ) × (n : ℤ) × (row ≡ three a b n)
three-of (value.Int a ∷ value.Int b ∷ value.Int n ∷ []) kinds = (a, b, n, refl)
three-of _ kinds = let no : ⊥ = cc in absurd no

-- a row of three whose last number is a result
row-more : (a b : Value) (g : Got Value) (row : Option Cells)
    → got (got (got g (λ v. Ok (a ∷ b ∷ v ∷ []))) (λ vs. Ok (take MOST_COLUMNS vs))) (λ row. Ok (Some row)) ≡ Ok row
    → (v : Value) × (g ≡ Ok v) × (Some (a ∷ b ∷ v ∷ []) ≡ row)
row-more a b (Ok v) row is = (v, refl, ok-is (Some (a ∷ b ∷ v ∷ [])) row is)
row-more a b (Err t) row is = let no : ⊥ = cc in absurd no

module _ (q : ℕ) (w d c e : ℤ) (tuples : List (List ℤ)) (db0 : Database) (consistent : IsConsistent table.tables db0) (each : HoldsOf db0) where
  abbrev asks : Request
  asks = r IsSound q w d c e tuples

  abbrev place : District
  place = record { w = w; d = d }

  -- the statements behind those that read the warehouse and the district
  abbrev behind_count : List Step
  behind_count = sale.read_customer ∷ Let sale.all_local (int 1) ∷ sale.note_remote ∷ sale.write_order ∷ sale.open_order
      ∷ Give (Reg sale.order) ∷ Let sale.sum (int 0) ∷ Let sale.number (int 0) ∷ Each sale.lines (in_turn sale.order_line) ∷ Give sale.total ∷ []

  abbrev from_count : List Step
  from_count = sale.count_order ∷ behind_count

  abbrev from_district : List Step
  from_district = read_district ∷ Let sale.order (Reg d_next_o_id) ∷ from_count

  abbrev first_regs : List Value
  first_regs = map blank sale.new_order.regs

  -- the registers where the warehouse and the district were read
  abbrev read_regs : ℤ → ℤ → ℤ → ℤ → ℤ → List Value
  read_regs a b tax ytd o = set_all (2 ∷ 3 ∷ 4 ∷ []) (three tax ytd o) (set_all (0 ∷ 1 ∷ []) (value.Int a ∷ value.Int b ∷ []) first_regs)

  ends : (tax ytd o : ℤ) (there : fin.get db0 (district_key place) ≡ Some (three tax ytd o)) (db : Database)
      → IsMid db0 place tax ytd o (pos (length tuples)) consistent each there (length tuples) db → IsSound db
  ends tax ytd o there db all = sound-each db (mid-holds db0 place tax ytd o (pos (length tuples)) consistent each there (length tuples) db refl all)

  count-leads : (a b tax ytd o : ℤ) (f : Frame) → f.regs ≡ slice_set (read_regs a b tax ytd o) 5 (value.Int o)
      → fin.get db0 (district_key place) ≡ Some (three tax ytd o) → Leads IsSound (steps_run asks (in_turn from_count) [] done f) db0
  count-leads a b tax ytd o f regs there =
      let n = pos (length tuples) in
      let row_got : List Value → Got (Option Cells) = λ regs.
      got (row_from asks [] regs (Reg d_tax ∷ Reg d_ytd ∷ more d_next_o_id (int 1) ∷ [])) (λ row. Ok (Some row)) in
      let next = steps_run asks (in_turn behind_count) [] done in
      write-leads IsSound (key_from asks [] f.regs 1 (warehouse ∷ district ∷ [])) (row_got f.regs) next f db0
      (λ k row g key some same.
      let raised = row-more (value.Int tax) (value.Int ytd) (number (o +ℤ pos 1)) row (ap row_got (sym regs) ∙ some) in
      let new : Some (three tax ytd (o +ℤ pos 1)) ≡ row =
      ap (λ v. Some (value.Int tax ∷ value.Int ytd ∷ v ∷ [])) (sym (number-is (o +ℤ pos 1) raised.0 raised.1)) ∙ raised.2 in
      let s : IsSet g.regs o 0 = subst (λ regs. IsSet regs o 0) (sym (same ∙ regs)) (record { order = refl; number = refl; enough = refl }) in
      subst (λ x. Leads IsSound (next g) (set_at db0 x row)) (ok-is (district_key place) k key)
      (subst (λ x. Leads IsSound (next g) (set_at db0 (district_key place) x)) new
      (customer-leads IsSound q w d c e tuples o n db0 tax ytd consistent each there (ends tax ytd o there) g
      (counted_db db0 place tax ytd o n consistent each there) refl refl s)))

  district-leads : (a b : ℤ) (f : Frame) → f.regs ≡ set_all (0 ∷ 1 ∷ []) (value.Int a ∷ value.Int b ∷ []) first_regs
      → Leads IsSound (steps_run asks (in_turn from_district) [] done f) db0
  district-leads a b f regs =
      read-leads IsSound (key_from asks [] f.regs 1 (warehouse ∷ district ∷ [])) (end.Trap Absent) (2 ∷ 3 ∷ 4 ∷ [])
      (steps_run asks (in_turn (Let sale.order (Reg d_next_o_id) ∷ from_count)) [] done) f db0 refl
      (λ k row g key found same.
      let there = ap (fin.get db0) (ok-is (district_key place) k key) ∙ found in
      let is = three-of row (consistent (district_key place) row there).1 in
      let tax = is.0 in
      let ytd = is.1 in
      let o = is.2 in
      let read : g.regs ≡ read_regs a b tax ytd o = same ∙ (λ i. set_all (2 ∷ 3 ∷ 4 ∷ []) (is.3 i) (regs i)) in
      count-leads a b tax ytd o (set_to g (slice_set g.regs 5 (slice_index_or g.regs 4 zero_value)))
      (λ i. slice_set (read i) 5 (slice_index_or (read i) 4 zero_value)) (there ∙ ap Some is.3))

  -- a new order, called with these numbers and lines
  pub order-keeps : IsSound db0 → IsSound (map_after is_done (script sale.new_order.body sale.new_order.regs asks) db0)
  order-keeps sound =
      run-leads IsSound (script sale.new_order.body sale.new_order.regs asks) db0 sound
      (read-leads IsSound (key_from asks [] first_regs 0 (warehouse ∷ [])) (end.Trap Absent) (0 ∷ 1 ∷ [])
      (steps_run asks (in_turn from_district) [] done) (begun sale.new_order.regs) db0 refl
      (λ k row g key found same.
      let wk = key_at table.warehouses (w ∷ []) in
      let is = two-of row (consistent wk row (ap (fin.get db0) (ok-is wk k key) ∙ found)).1 in
      district-leads is.0 is.1 g (same ∙ ap (λ row. set_all (0 ∷ 1 ∷ []) row first_regs) is.2)))
