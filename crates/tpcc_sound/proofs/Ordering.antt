-- What a new order does to sound rows: the district's next number, the order, its entry among the open ones, and its lines one by one.
use Rattle.std.proofs.Common.{◌≡◌, refl, sym, ap, subst, ◌∙◌, ℕ, suc, ◌+◌, ◌<◌, ℤ, pos, ◌+ℤ◌, ◌-ℤ◌, ◌≤ℤ◌, Bool, true, false, cond, ◌&&◌, eqb, true≢false}
use Rattle.std.proofs.Common.{if◌then◌else◌, List, [], ◌∷◌, map, length, Option, Some, None, nat_le, arith}
use Rattle.std.specs.Prelude.{int_le, ◌<ℤ◌}
use Rattle.std.proofs.lemmas.Cmp.{int_eq_equiv}
use Rattle.std.specs.Int.{int_max, int_min}
use Rattle.std.specs.List.{filter_map, fold}
use Rattle.std.specs.FinMap as fin
use Rattle.std.proofs.lemmas.Bool.{eq-eqb}
use Rattle.std.proofs.lemmas.Int.{ints, clamps}
use Rattle.aria_base.proofs.Orders.{key_cmp_total}
use Rattle.aria_base.specs.Kinds.{part_kind}
use Rattle.aria_base.specs.Orders.{Cells, Database}
use Rattle.aria_base.specs.Schemas.{Fits, IsConsistent}
use Rattle.aria_base.specs.declared.keys.Key.{Key}
use Rattle.aria_base.specs.declared.keys.Part.{Part}
use Rattle.aria_base.specs.declared.keys.Part.TheVariants as part
use Rattle.aria_base.specs.declared.values.Kind.TheVariants as kind
use Rattle.aria_base.specs.declared.values.Value.{Value}
use Rattle.aria_base.specs.declared.values.Value.TheVariants as value
use Rattle.cat_builtin.specs.Warehouses as table
use Rattle.tpcc_audit.specs.declared.conditions.Condition.{Condition}
use Rattle.tpcc_audit.specs.declared.conditions.Condition.TheVariants as condition
use Rattle.tpcc_audit.specs.declared.facts.District.{District}
use Rattle.tpcc_audit.specs.declared.facts.DistrictRow.{DistrictRow}
use Rattle.tpcc_audit.specs.declared.facts.Fact.{Fact}
use Rattle.tpcc_audit.specs.declared.facts.Fact.TheVariants as fact
use Rattle.tpcc_audit.specs.declared.findings.Audit.{Audit}
use Rattle.tpcc_audit.specs.declared.findings.Audit.TheVariants.{Holds, Fails}
use Rattle.tpcc_audit.specs.declared.tallies.Tally.{Tally}
use Rattle.tpcc_audit.specs.Books.{same, greatest, least, greater, lesser, or_nothing, order_of, open_of, tally_of, paid_to, with_order, with_open, with_line, counted, paid_behind}
use Rattle.tpcc_audit.specs.Conditions.{compared, agrees_if_any, reach, numbers, span, lines, amount, at_district}
use Rattle.tpcc_audit.specs.Facts.{part_at, column_at, district_at, fact_of, facts_of}
use Rattle.tpcc_routines.specs.Answers.{key_at}
use Rattle.tpcc_routines.specs.Routines.{d_next_o_id, order_number}
use Rattle.tpcc_routines.specs.Sound.{AreNumbered, district_of}
use Rattle.tpcc_sound.proofs.Audits.{AllHold, fails-not, either-parts, either-holds, compared-is, compared-holds, same-is}
use Rattle.tpcc_sound.proofs.Counting.{tally-new, paid-new, tally-changed, paid-changed, tally-other, paid-other, same-Some}
use Rattle.tpcc_sound.proofs.Entries.{ties, tied, ties-self}
use Rattle.tpcc_sound.proofs.Points.{HoldsOf, holds-of, warehouse_of, district_at_key}

-- ---- one district's tally

-- with a new order of this number and of so many lines, of which some are there
abbrev pub ordered : Tally → ℤ → ℤ → ℕ → Tally
ordered t o n m = record {
  greatest_order = greater t.greatest_order o;
  greatest_open = greater t.greatest_open o;
  least_open = lesser t.least_open o;
  open_count = t.open_count + 1;
  due = t.due +ℤ n;
  lines = t.lines + m;
}

abbrev pub row_of : District → ℤ → ℤ → DistrictRow
row_of at ytd next = record { at = at; ytd = ytd; next = next }

greater-next : (found : Option ℤ) (o : ℤ) → o -ℤ pos 1 ≡ or_nothing found → (o +ℤ pos 1) -ℤ pos 1 ≡ or_nothing (greater found o)
greater-next None o is = omega (arith, ints)
greater-next (Some g) o is = omega (arith, ints, clamps, is)

agrees-next : (at : District) (o : ℤ) (found : Option ℤ) → agrees_if_any 2 at (o -ℤ pos 1) found ≡ Holds
    → agrees_if_any 2 at ((o +ℤ pos 1) -ℤ pos 1) (greater found o) ≡ Holds
agrees-next at o None is = compared-holds 2 at ((o +ℤ pos 1) -ℤ pos 1) o (omega (arith, ints))
agrees-next at o (Some g) is =
    let e = compared-is 2 at (o -ℤ pos 1) g is in
    compared-holds 2 at ((o +ℤ pos 1) -ℤ pos 1) (int_max g o) (omega (arith, ints, clamps, e))

numbers-next : (at : District) (ytd o n : ℤ) (m : ℕ) (t : Tally) → numbers (row_of at ytd o) t ≡ Holds
    → numbers (row_of at ytd (o +ℤ pos 1)) (ordered t o n m) ≡ Holds
numbers-next at ytd o n m t is =
    let parts = either-parts (compared 2 at (o -ℤ pos 1) (or_nothing t.greatest_order)) (agrees_if_any 2 at (o -ℤ pos 1) t.greatest_open) is in
    either-holds (compared 2 at ((o +ℤ pos 1) -ℤ pos 1) (or_nothing (greater t.greatest_order o)))
    (agrees_if_any 2 at ((o +ℤ pos 1) -ℤ pos 1) (greater t.greatest_open o))
    (compared-holds 2 at ((o +ℤ pos 1) -ℤ pos 1) (or_nothing (greater t.greatest_order o))
    (greater-next t.greatest_order o (compared-is 2 at (o -ℤ pos 1) (or_nothing t.greatest_order) parts.0)))
    (agrees-next at o t.greatest_open parts.1)

-- from the least open order to the new one
wider : (l g o c : ℤ) → reach l g ≡ c → pos 0 ≤ℤ c → o -ℤ pos 1 ≡ g → reach (int_min l o) (int_max g o) ≡ c +ℤ pos 1
wider l g o c all some is = omega (arith, ints, clamps, all, some, is)

gaps-next : (at : District) (ytd o : ℤ) (opens : List ℤ) → agrees_if_any 2 at (o -ℤ pos 1) (greatest opens) ≡ Holds
    → span (row_of at ytd o) (length opens) (least opens) (greatest opens) ≡ Holds
    → span (row_of at ytd (o +ℤ pos 1)) (length opens + 1) (lesser (least opens) o) (greater (greatest opens) o) ≡ Holds
gaps-next at ytd o [] last is = compared-holds 3 at (reach o o) (pos 1) (omega (arith, ints))
gaps-next at ytd o (x ∷ xs) last is =
    let g = fold int_max x xs in
    let l = fold int_min x xs in
    let c = pos (suc (length xs)) in
    compared-holds 3 at (reach (int_min l o) (int_max g o)) (pos (suc (length xs) + 1))
    (wider l g o c (compared-is 3 at (reach l g) c is) (omega (arith, ints)) (compared-is 2 at (o -ℤ pos 1) g last))

lines-next : (at : District) (ytd o : ℤ) (m : ℕ) (t : Tally) → lines (row_of at ytd o) t ≡ Holds
    → lines (row_of at ytd (o +ℤ pos 1)) (ordered t o (pos m) m) ≡ Holds
lines-next at ytd o m t is =
    let e = compared-is 4 at t.due (pos t.lines) is in
    compared-holds 4 at (t.due +ℤ pos m) (pos (t.lines + m)) (omega (arith, ints, e))

-- ---- numbers that are there

module _ (told : Fact → Option ℤ) (db : Database) (k : Key) (row : Cells) (n : ℤ) (found : fin.get db k ≡ Some row) (is : told (fact_of (k, row)) ≡ Some n)
  where
    some-number : filter_map told (facts_of db) ≡ [] → ⊥
    some-number none =
        fails-not 0 n n n n (holds-of told (λ x. Fails 0 n n n n) db (subst (λ l. AllHold (map (λ x. Fails 0 n n n n) l)) (sym none) tt) k row n found is)

    abbrev within_finding : ℤ → ℤ → Audit
    within_finding g x = if int_le x g then Holds else Fails 0 g g g g

    within-holds : (g x : ℤ) → x ≤ℤ g → within_finding g x ≡ Holds
    within-holds g x h = let le : int_le x g ≡ true = grind (arith, ints) in ap (λ b. if b then Holds else Fails 0 g g g g) le

    fold-above : (z : ℤ) (zs : List ℤ) → z ≤ℤ fold int_max z zs
    fold-above z [] = omega (arith, ints)
    fold-above z (u ∷ us) = let more = fold-above (int_max z u) us in omega (arith, ints, clamps, more)

    rest-within : (g z : ℤ) (zs : List ℤ) → fold int_max z zs ≤ℤ g → AllHold (map (within_finding g) zs)
    rest-within g z [] h = tt
    rest-within g z (u ∷ us) h =
        let more = fold-above (int_max z u) us in (within-holds g u (omega (arith, ints, clamps, more, h)), rest-within g (int_max z u) us h)

    all-within : (g x : ℤ) (xs : List ℤ) → fold int_max x xs ≤ℤ g → AllHold (map (within_finding g) (x ∷ xs))
    all-within g x xs h = let more = fold-above x xs in (within-holds g x (omega (arith, ints, more, h)), rest-within g x xs h)

    below-greatest : (x : ℤ) (xs : List ℤ) → filter_map told (facts_of db) ≡ x ∷ xs → n ≤ℤ fold int_max x xs
    below-greatest x xs all =
        let g = fold int_max x xs in
        let le = holds-of told (within_finding g) db (subst (λ l. AllHold (map (within_finding g) l)) (sym all) (all-within g x xs (omega (arith, ints)))) k
        row n
        found is in
        at (int_le n g) refl le
      where
        at : (b : Bool) → int_le n (fold int_max x xs) ≡ b
            → (if b then Holds else Fails 0 (fold int_max x xs) (fold int_max x xs) (fold int_max x xs) (fold int_max x xs)) ≡ Holds
            → n ≤ℤ fold int_max x xs
        at true is h = grind (arith, ints)
        at false is h = absurd (fails-not 0 (fold int_max x xs) (fold int_max x xs) (fold int_max x xs) (fold int_max x xs) h)

-- ---- rows that are put

-- what is found where a row was put is that row, or what was there
pub put-cases : {G : Type 0} (db : Database) (k : Key) (v : Cells) (q : Key) (row : Cells) → fin.get (fin.insert db k v) q ≡ Some row
    → (q ≡ k → v ≡ row → G) → (ties q k ≡ false → fin.get db q ≡ Some row → G) → G
put-cases {G} db k v q row found here elsewhere = at (ties q k) refl (sym (fin.get-insert key_cmp_total db k v q) ∙ found)
  where
    at : (b : Bool) → ties q k ≡ b → cond b (Some v) (fin.get db q) ≡ Some row → G
    at true is some = here (tied q k is) (same-Some v row some)
    at false other there = elsewhere other there

pub apart-tables : (q k : Key) → eqb q.table k.table ≡ false → ties q k ≡ false
apart-tables q k other = at (ties q k) refl
  where
    at : (b : Bool) → ties q k ≡ b → ties q k ≡ false
    at true is = absurd (true≢false (sym (eq-eqb q.table k.table (ap (λ k. k.table) (tied q k is))) ∙ other))
    at false apart = apart

pub get-apart : (db : Database) (k : Key) (v : Cells) (q : Key) → ties q k ≡ false → fin.get (fin.insert db k v) q ≡ fin.get db q
get-apart db k v q other = fin.get-insert key_cmp_total db k v q ∙ ap (λ b. cond b (Some v) (fin.get db q)) other

-- a row that is no district's leaves each line below its district's number, if it is no line or one of a number below
pub numbered-put : (db : Database) (k : Key) (v : Cells) → AreNumbered db → eqb table.districts k.table ≡ false
    → (k.table ≡ table.order_lines → (district : Cells) → district_of db k ≡ Some district → order_number k <ℤ d_next_o_id district)
    → AreNumbered (fin.insert db k v)
numbered-put db k v before other so q line district of found row =
    let dk = key_at table.districts (part_at q.parts 0 ∷ part_at q.parts 1 ∷ []) in
    let was : fin.get db dk ≡ Some district = sym (get-apart db k v dk (apart-tables dk k other)) ∙ row in
    put-cases db k v q line found
    (λ here _. subst (λ x. order_number x <ℤ d_next_o_id district) (sym here)
    (so (ap (λ k. k.table) (sym here) ∙ of) district (subst (λ x. district_of db x ≡ Some district) here was)))
    (λ _ there. before q line district of there was)

-- ---- a district's number

abbrev pub three : ℤ → ℤ → ℤ → Cells
three a b c = value.Int a ∷ value.Int b ∷ value.Int c ∷ []

abbrev pub district_key : District → Key
district_key at = key_at table.districts (at.w ∷ at.d ∷ [])

numbered-more : (db : Database) (at : District) (tax ytd o : ℤ) → AreNumbered db → fin.get db (district_key at) ≡ Some (three tax ytd o)
    → AreNumbered (fin.insert db (district_key at) (three tax ytd (o +ℤ pos 1)))
numbered-more db at tax ytd o before there q line district of found row =
    let dk = key_at table.districts (part_at q.parts 0 ∷ part_at q.parts 1 ∷ []) in
    let line_there = sym (get-apart db (district_key at) (three tax ytd (o +ℤ pos 1)) q
    (apart-tables q (district_key at) (ap (λ t. eqb t 1) of))) ∙ found in
    put-cases db (district_key at) (three tax ytd (o +ℤ pos 1)) dk district row
    (λ here new.
    let less = before q line (three tax ytd o) of line_there (ap (fin.get db) here ∙ there) in
    let next : o +ℤ pos 1 ≡ d_next_o_id district = ap d_next_o_id new in
    subst (λ n. order_number q <ℤ n) next (omega (arith, ints, less)))
    (λ _ was. before q line district of line_there was)

-- of two numbers a district's key has two
two-parts : (parts : List Part) (at : District) → map part_kind parts ≡ kind.Int ∷ kind.Int ∷ [] → same at (district_at parts) ≡ true
    → part.Int at.w ∷ part.Int at.d ∷ [] ≡ parts
two-parts (part.Int a ∷ part.Int b ∷ []) at kinds is = let e = same-is at (record { w = a; d = b }) is in
    λ i. part.Int ((e i).w) ∷ part.Int ((e i).d) ∷ []
two-parts _ at kinds is = let no : ⊥ = cc in absurd no

district-kinds : (k : Key) (row : Cells) → Fits table.tables k row → k.table ≡ table.districts → map part_kind k.parts ≡ kind.Int ∷ kind.Int ∷ []
district-kinds k row fits is = (subst (λ t. Fits table.tables (record { table = t; parts = k.parts }) row) is fits).0

-- a district's row at another key is one of another district
pub other-district : (db : Database) (at : District) (k : Key) (row : Cells) → IsConsistent table.tables db → fin.get db k ≡ Some row
    → k.table ≡ table.districts → ties k (district_key at) ≡ false → same at (district_at k.parts) ≡ false
other-district db at k row consistent found of other = at_test (same at (district_at k.parts)) refl
  where
    at_test : (b : Bool) → same at (district_at k.parts) ≡ b → same at (district_at k.parts) ≡ false
    at_test true is =
        let e : k ≡ district_key at = λ i. record {
          table = of i;
          parts =
              sym (two-parts k.parts at (district-kinds k row (consistent k row found) of) is) i;
        } in
        absurd (true≢false (sym (ties-at k (district_key at) e) ∙ other))
      where
        ties-at : (a b : Key) → a ≡ b → ties a b ≡ true
        ties-at a b e = subst (λ x. ties a x ≡ true) e (ties-self a)
    at_test false apart = apart

-- ---- a new order, step by step

same-at : (at : District) → same at at ≡ true
same-at at = λ i. int_eq_equiv.refl at.w i && int_eq_equiv.refl at.d i

low-apart : (n t : ℕ) → nat_le n 1 ≡ true → nat_le t 1 ≡ false → eqb n t ≡ false
low-apart n t low high = grind (arith, low, high)

mid-begin : (b : Bool) (t : Tally) (o n : ℤ) → (if b then with_open (if b then with_order t o n else t) o else (if b then with_order t o n else t))
    ≡ (if b then ordered t o n 0 else t)
mid-begin true t o n = let none : t.lines ≡ t.lines + 0 = omega arith in ap (λ l. record {
  greatest_order = greater t.greatest_order o;
  greatest_open = greater t.greatest_open o;
  least_open = lesser t.least_open o;
  open_count = t.open_count + 1;
  due = t.due +ℤ n;
  lines = l;
}) none
mid-begin false t o n = refl

mid-line : (b : Bool) (t : Tally) (o n : ℤ) (m : ℕ) → (if b then with_line (if b then ordered t o n m else t) else (if b then ordered t o n m else t))
    ≡ (if b then ordered t o n (m + 1) else t)
mid-line true t o n m = let more : t.lines + m + 1 ≡ t.lines + (m + 1) = omega arith in ap (λ l. record {
  greatest_order = greater t.greatest_order o;
  greatest_open = greater t.greatest_open o;
  least_open = lesser t.least_open o;
  open_count = t.open_count + 1;
  due = t.due +ℤ n;
  lines = l;
}) more
mid-line false t o n m = refl

module _ (db0 : Database) (at : District) (tax ytd o n : ℤ) (consistent : IsConsistent table.tables db0) (each : HoldsOf db0)
    (there : fin.get db0 (district_key at) ≡ Some (three tax ytd o)) where
  abbrev pub numbered_row : Cells
  numbered_row = three tax ytd (o +ℤ pos 1)

  abbrev pub counted_db : Database
  counted_db = fin.insert db0 (district_key at) numbered_row

  abbrev pub order_key : Key
  order_key = key_at table.orders (at.w ∷ at.d ∷ o ∷ [])

  abbrev pub open_key : Key
  open_key = key_at table.open_orders (at.w ∷ at.d ∷ o ∷ [])

  abbrev pub line_key : ℕ → Key
  line_key m = key_at table.order_lines (at.w ∷ at.d ∷ o ∷ pos m ∷ [])

  condition_at : (c : Condition) → at_district c (row_of at ytd o) (tally_of at (facts_of db0)) ≡ Holds
  condition_at c = each.districts c (district_key at) (three tax ytd o) refl there

  last_order-is : o -ℤ pos 1 ≡ or_nothing (greatest (filter_map (order_of at) (facts_of db0)))
  last_order-is =
      let t = tally_of at (facts_of db0) in
      compared-is 2 at (o -ℤ pos 1) (or_nothing t.greatest_order)
      (either-parts (compared 2 at (o -ℤ pos 1) (or_nothing t.greatest_order)) (agrees_if_any 2 at (o -ℤ pos 1) t.greatest_open)
      (condition_at condition.Numbers)).0

  last_open-is : agrees_if_any 2 at (o -ℤ pos 1) (greatest (filter_map (open_of at) (facts_of db0))) ≡ Holds
  last_open-is =
      let t = tally_of at (facts_of db0) in
      (either-parts (compared 2 at (o -ℤ pos 1) (or_nothing t.greatest_order)) (agrees_if_any 2 at (o -ℤ pos 1) t.greatest_open)
      (condition_at condition.Numbers)).1

  -- ---- nothing stands under the new number

  no-order : fin.get db0 order_key ≡ None
  no-order = on (fin.get db0 order_key) refl
    where
      on : (found : Option Cells) → fin.get db0 order_key ≡ found → found ≡ None
      on None e = refl
      on (Some row) e = absurd (by (filter_map (order_of at) (facts_of db0)) refl)
        where
          is : order_of at (fact_of (order_key, row)) ≡ Some o
          is = ap (λ b. if b then Some o else None) (same-at at)

          by : (ns : List ℤ) → filter_map (order_of at) (facts_of db0) ≡ ns → ⊥
          by [] none = some-number (order_of at) db0 order_key row o e is none
          by (x ∷ xs) some =
              let within = below-greatest (order_of at) db0 order_key row o e is x xs some in
              let last = last_order-is ∙ ap (λ ns. or_nothing (greatest ns)) some in
              omega (arith, ints, within, last)

  no-open : fin.get db0 open_key ≡ None
  no-open = on (fin.get db0 open_key) refl
    where
      on : (found : Option Cells) → fin.get db0 open_key ≡ found → found ≡ None
      on None e = refl
      on (Some row) e = absurd (by (filter_map (open_of at) (facts_of db0)) refl)
        where
          is : open_of at (fact_of (open_key, row)) ≡ Some o
          is = ap (λ b. if b then Some o else None) (same-at at)

          by : (ns : List ℤ) → filter_map (open_of at) (facts_of db0) ≡ ns → ⊥
          by [] none = some-number (open_of at) db0 open_key row o e is none
          by (x ∷ xs) some =
              let within = below-greatest (open_of at) db0 open_key row o e is x xs some in
              let last = compared-is 2 at (o -ℤ pos 1) (fold int_max x xs)
              (ap (λ ns. agrees_if_any 2 at (o -ℤ pos 1) (greatest ns)) (sym some) ∙ last_open-is) in
              omega (arith, ints, within, last)

  no-line : (m : ℕ) → fin.get db0 (line_key m) ≡ None
  no-line m = on (fin.get db0 (line_key m)) refl
    where
      on : (found : Option Cells) → fin.get db0 (line_key m) ≡ found → found ≡ None
      on None e = refl
      on (Some row) e = let less : o <ℤ o = each.lines (line_key m) row (three tax ytd o) refl e there in absurd (omega (arith, ints, less))

  -- ---- so many lines are there

  pub record IsMid (m : ℕ) (db : Database) : Type 0 where
    pub kept : (k : Key) → nat_le k.table 1 ≡ true → fin.get db k ≡ fin.get counted_db k
    pub paid : (w : ℤ) → paid_to w (facts_of db) ≡ paid_to w (facts_of db0)
    pub tally : (q : District) → tally_of q (facts_of db)
        ≡ (if same at q then ordered (tally_of q (facts_of db0)) o n m else tally_of q (facts_of db0))
    pub numbered : AreNumbered db
    pub fresh : (j : ℕ) → m < j → fin.get db (line_key j) ≡ None

  plus-none : (t : ℤ) → t +ℤ pos 0 ≡ t
  plus-none t = omega (arith, ints)

  paid-kept : (w : ℤ) → paid_to w (facts_of counted_db) ≡ paid_to w (facts_of db0)
  paid-kept w =
      paid-changed w (pos 0) db0 (district_key at) numbered_row (three tax ytd o)
      (λ t. sym (plus-none (paid_behind w (fact_of (district_key at, numbered_row)) t)))
      there
      ∙ plus-none (paid_to w (facts_of db0))

  -- the order and its entry, whatever else the order's row has
  pub mid-begins : (order : Cells) → column_at order 3 ≡ n → IsMid 0 (fin.insert (fin.insert counted_db order_key order) open_key [])
  mid-begins order is =
      let ordered_db = fin.insert counted_db order_key order in
      let none : fin.get counted_db order_key ≡ None =
      get-apart db0 (district_key at) numbered_row order_key (apart-tables order_key (district_key at) refl) ∙ no-order in
      let none_open : fin.get ordered_db open_key ≡ None =
      get-apart counted_db order_key order open_key (apart-tables open_key order_key refl)
      ∙ get-apart db0 (district_key at) numbered_row open_key (apart-tables open_key (district_key at) refl) ∙ no-open in
      record {
        kept = λ k low. get-apart ordered_db open_key [] k (apart-tables k open_key (low-apart k.table 4 low refl))
            ∙ get-apart counted_db order_key order k (apart-tables k order_key (low-apart k.table 5 low refl));
        paid = λ w. paid-new w ordered_db open_key [] none_open ∙ paid-new w counted_db order_key order none ∙ paid-kept w;
        tally = λ q. tally-new q ordered_db open_key [] none_open
            ∙ ap (counted (fact.Open at o) q) (tally-new q counted_db order_key order none
            ∙ ap (λ c. counted (fact.Order at o c) q (tally_of q (facts_of counted_db))) is
            ∙ ap (counted (fact.Order at o n) q) (tally-changed q db0 (district_key at) numbered_row (three tax ytd o) (λ t. refl) there))
            ∙ mid-begin (same at q) (tally_of q (facts_of db0)) o n;
        numbered = numbered-put ordered_db open_key []
            (numbered-put counted_db order_key order (numbered-more db0 at tax ytd o each.lines there) refl (λ line. absurd (other-number line)))
            refl (λ line. absurd (other-open line));
        fresh = λ j below. get-apart ordered_db open_key [] (line_key j) (apart-tables (line_key j) open_key refl)
            ∙ get-apart counted_db order_key order (line_key j) (apart-tables (line_key j) order_key refl)
            ∙ get-apart db0 (district_key at) numbered_row (line_key j) (apart-tables (line_key j) (district_key at) refl) ∙ no-line j;
      }
    where
      other-number : ◌≡◌ {A = ℕ} 5 6 → ⊥
      other-number e = omega (arith, e)

      other-open : ◌≡◌ {A = ℕ} 4 6 → ⊥
      other-open e = omega (arith, e)

  -- a stock
  pub mid-stock : (m : ℕ) (db : Database) (w i : ℤ) (row : Cells) → IsMid m db → IsMid m (fin.insert db (key_at table.stocks (w ∷ i ∷ [])) row)
  mid-stock m db w i row mid =
      let k = key_at table.stocks (w ∷ i ∷ []) in
      record {
        kept = λ q low. get-apart db k row q (apart-tables q k (low-apart q.table 8 low refl)) ∙ mid.kept q low;
        paid = λ v. paid-other v db k row (λ _. refl) ∙ mid.paid v;
        tally = λ q. tally-other q db k row (λ _. refl) ∙ mid.tally q;
        numbered = numbered-put db k row mid.numbered refl (λ line. absurd (other line));
        fresh = λ j below. get-apart db k row (line_key j) (apart-tables (line_key j) k refl) ∙ mid.fresh j below;
      }
    where
      other : ◌≡◌ {A = ℕ} 8 6 → ⊥
      other e = omega (arith, e)

  apart-lines : (i j : ℕ) → i < j → ties (line_key j) (line_key i) ≡ false
  apart-lines i j below = on (ties (line_key j) (line_key i)) refl
    where
      on : (b : Bool) → ties (line_key j) (line_key i) ≡ b → b ≡ false
      on true is =
          let e : pos j ≡ pos i = ap (λ k. part_at k.parts 3) (tied (line_key j) (line_key i) is) in
          absurd (omega (arith, ints, below, e))
      on false other = refl

  -- the next line
  pub mid-line-put : (m : ℕ) (db : Database) (row : Cells) → IsMid m db → IsMid (m + 1) (fin.insert db (line_key (m + 1)) row)
  mid-line-put m db row mid =
      let k = line_key (m + 1) in
      let none : fin.get db k ≡ None = mid.fresh (m + 1) (omega arith) in
      record {
        kept = λ q low. get-apart db k row q (apart-tables q k (low-apart q.table 6 low refl)) ∙ mid.kept q low;
        paid = λ w. paid-new w db k row none ∙ mid.paid w;
        tally = λ q. tally-new q db k row none ∙ ap (counted (fact.Line at) q) (mid.tally q) ∙ mid-line (same at q) (tally_of q (facts_of db0)) o n m;
        numbered = numbered-put db k row mid.numbered refl (λ _ district found.
            let is : numbered_row ≡ district = same-Some numbered_row district
            (sym (fin.get-insert key_cmp_total db0 (district_key at) numbered_row (district_key at)
            ∙ ap (λ b. cond b (Some numbered_row) (fin.get db0 (district_key at))) (ties-self (district_key at)))
            ∙ sym (mid.kept (district_key at) refl) ∙ found) in
            subst (λ d. o <ℤ d_next_o_id d) is (omega (arith, ints)));
        fresh = λ j below. get-apart db k row (line_key j) (apart-lines (m + 1) j below) ∙ mid.fresh j (omega (arith, below));
      }

  -- ---- all lines are there

  kept-low : (m : ℕ) (db : Database) → IsMid m db → (k : Key) (row : Cells) → nat_le k.table 1 ≡ true → ties k (district_key at) ≡ false
      → fin.get db k ≡ Some row → fin.get db0 k ≡ Some row
  kept-low m db mid k row low other found = sym (mid.kept k low ∙ get-apart db0 (district_key at) numbered_row k other) ∙ found

  at-all : (m : ℕ) (db : Database) → n ≡ pos m → IsMid m db → (c : Condition)
      → at_district c (row_of at ytd (o +ℤ pos 1)) (tally_of at (facts_of db)) ≡ Holds
  at-all m db all mid c =
      let t0 = tally_of at (facts_of db0) in
      let t : tally_of at (facts_of db) ≡ ordered t0 o n m = mid.tally at ∙ ap (λ b. if b then ordered t0 o n m else t0) (same-at at) in
      ap (at_district c (row_of at ytd (o +ℤ pos 1))) t ∙ by c
    where
      by : (c : Condition) → at_district c (row_of at ytd (o +ℤ pos 1)) (ordered (tally_of at (facts_of db0)) o n m) ≡ Holds
      by condition.Numbers = numbers-next at ytd o n m (tally_of at (facts_of db0)) (condition_at condition.Numbers)
      by condition.Gaps = gaps-next at ytd o (filter_map (open_of at) (facts_of db0)) last_open-is (condition_at condition.Gaps)
      by condition.Lines =
          ap (λ n. lines (row_of at ytd (o +ℤ pos 1)) (ordered (tally_of at (facts_of db0)) o n m)) all
          ∙ lines-next at ytd o m (tally_of at (facts_of db0)) (condition_at condition.Lines)

  pub mid-holds : (m : ℕ) (db : Database) → n ≡ pos m → IsMid m db → HoldsOf db
  mid-holds m db all mid = record {
    amounts = λ k row of found.
        ap (amount (warehouse_of k row)) (mid.paid (part_at k.parts 0))
        ∙ each.amounts k row of (kept-low m db mid k row (ap (λ t. nat_le t 1) of)
        (apart-tables k (district_key at) (ap (λ t. eqb t 1) of)) found);
    districts = λ c k row of found. on c k row of found (ties k (district_key at)) refl;
    lines = mid.numbered;
  }
    where
      on : (c : Condition) (k : Key) (row : Cells) → k.table ≡ table.districts → fin.get db k ≡ Some row → (b : Bool) → ties k (district_key at) ≡ b
          → at_district c (district_at_key k row) (tally_of (district_at k.parts) (facts_of db)) ≡ Holds
      on c k row of found true is =
          let here : k ≡ district_key at = tied k (district_key at) is in
          let new : numbered_row ≡ row = same-Some numbered_row row
          (sym (fin.get-insert key_cmp_total db0 (district_key at) numbered_row k ∙ ap (λ b. cond b (Some numbered_row) (fin.get db0 k)) is)
          ∙ sym (mid.kept k (ap (λ t. nat_le t 1) of)) ∙ found) in
          (λ i. at_district c (district_at_key (here i) (sym new i)) (tally_of (district_at ((here i).parts)) (facts_of db)))
          ∙ at-all m db all mid c
      on c k row of found false other =
          let was = kept-low m db mid k row (ap (λ t. nat_le t 1) of) other found in
          let elsewhere = other-district db0 at k row consistent was of other in
          let q = district_at k.parts in
          ap (at_district c (district_at_key k row))
          (mid.tally q ∙ ap (λ b. if b then ordered (tally_of q (facts_of db0)) o n m else tally_of q (facts_of db0)) elsewhere)
          ∙ each.districts c k row of was
