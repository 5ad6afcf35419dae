-- Keys and rows that typing lets through are those that the table takes.
use Rattle.std.proofs.Common.{◌≡◌, ◌≤◌, ℕ, ℤ, pos, ◌==◌, true, nat_lt, nat_le, ◌&&◌, List, [], ◌∷◌, ◌++◌, length, map, take, slice_get, Option, Some, None, Ok, Err, IfOk, IsSomeAnd, refl, sym, ap, ◌∙◌, subst, take_all}
use Rattle.std.specs.Prelude.{⊤}
use Rattle.std.specs.List.{list_all}
use Rattle.std.proofs.lemmas.Bool.{and_parts, and_from, cond-true, eqb-true, leb-true, lt-ltb}
use Rattle.std.proofs.lemmas.List.{length-map}
use Rattle.std.proofs.lemmas.Result.{IfOk-weaker}
use Rattle.aria_base.specs.Kinds.{value_kind, part_kind}
use Rattle.aria_base.specs.Orders.{Cells}
use Rattle.aria_base.specs.declared.calls.Request.{Request}
use Rattle.aria_base.specs.declared.keys.Key.{Key}
use Rattle.aria_base.specs.declared.keys.Part.TheVariants as part
use Rattle.aria_base.specs.declared.schemas.Table.{Table}
use Rattle.aria_base.specs.declared.values.Value.{Value}
use Rattle.aria_base.specs.declared.values.Kind.{Kind}
use Rattle.aria_base.specs.declared.limits.TheConstants.{FEWEST_PARTS, MOST_PARTS, MOST_COLUMNS}
use Rattle.proc_lang.specs.declared.flaws.TheConstants.{UNKNOWN_TABLE, KEY_LENGTH, COLUMNS, KIND}
use Rattle.batch_rules.specs.Trees.{Reads, Writes}
use Rattle.proc_lang.specs.Terms.{Term}
use Rattle.proc_lang.specs.Values.{Got, got, both}
use Rattle.proc_lang.specs.Meaning.{Frame, Run, part_of, parts_of, key_from, row_from, values_of}
use Rattle.proc_lang.specs.Meaning as plain
use Rattle.proc_lang.specs.Typing.{Scope, Set, found, wanted, keyed, shaped, agree, kinds_after}
use Rattle.proc_lang.specs.Catalogs.{is_between}
use Rattle.proc_sound.specs.Careful.{Sure, and_then, checked, State, Careful, Next, counted, has_place, has_columns, holds_of, same_kinds, careful_values, careful_key, careful_row, reads, writes}
use Rattle.proc_sound.specs.Laws.{shape_fits}
use Rattle.proc_sound.proofs.Lists.{same_kinds-decides, parts_kinds, fronts_same, all_at}
use Rattle.proc_sound.proofs.Results.{got_ok, wanted_ok, wanted_is, found_is, IsSure, then_sure, pair_sure}
use Rattle.proc_sound.proofs.Expressions.{Values, Context, Registers, Found, found_all}
use Rattle.aria_base.proofs.Fitting.{MayStand}
use Rattle.proc_sound.proofs.Trees.{Like}
use Rattle.proc_sound.proofs.Registers.{States, Follows, with_like, checked_like, counted_like}

-- ---- the table

-- the table of a statement: it is there, within the limits, and has so many key parts
pub record Keyed (tables : List Table) (t parts : ℕ) (table : Table) : Type 0 where
  pub there_is : slice_get tables t ≡ Some table
  pub parts_are : parts ≡ length table.key
  pub shape : shape_fits table ≡ true

pub keyed_ok : (s : Scope) (t parts : ℕ) → list_all shape_fits s.tables ≡ true → IfOk (keyed s t parts) (Keyed s.tables t parts)
keyed_ok s t parts shapes = got_ok (found UNKNOWN_TABLE (slice_get s.tables t)) (λ table. got (wanted KEY_LENGTH (parts == length table.key)) (λ _. Ok table))
    (λ table. slice_get s.tables t ≡ Some table) (Keyed s.tables t parts) (found_is UNKNOWN_TABLE (slice_get s.tables t)) (λ table e.
    wanted_ok KEY_LENGTH (parts == length table.key) (λ _. Ok table) (Keyed s.tables t parts)
    (λ same. record { there_is = e; parts_are = eqb-true parts (length table.key) same; shape = all_at shape_fits s.tables t table shapes e }))

-- and so many columns
pub record Shaped (tables : List Table) (t parts columns : ℕ) (table : Table) : Type 0 where
  pub keyed : Keyed tables t parts table
  pub columns_are : columns ≡ length table.cols

pub shaped_ok : (s : Scope) (t parts columns : ℕ) → list_all shape_fits s.tables ≡ true → IfOk (shaped s t parts columns) (Shaped s.tables t parts columns)
shaped_ok s t parts columns shapes = got_ok (keyed s t parts) (λ table. got (wanted COLUMNS (columns == length table.cols)) (λ _. Ok table))
    (Keyed s.tables t parts) (Shaped s.tables t parts columns) (keyed_ok s t parts shapes) (λ table k.
    wanted_ok COLUMNS (columns == length table.cols) (λ _. Ok table) (Shaped s.tables t parts columns)
    (λ same. record { keyed = k; columns_are = eqb-true columns (length table.cols) same }))

-- ---- keys and rows

-- a key of the table
pub record IsKey (t : ℕ) (table : Table) (key : Key) : Type 0 where
  pub table_is : key.table ≡ t
  pub kinds_are : map part_kind key.parts ≡ table.key

-- a row of the table, if there is one
abbrev pub IsRow : Table → Option Cells → Type 0
IsRow table None = ⊤
IsRow table (Some row) = map value_kind row ≡ table.cols

all_parts : (vs : List Value) → is_between FEWEST_PARTS MOST_PARTS (length vs) ≡ true → parts_of vs ≡ map part_of vs
all_parts vs e =
    let are = and_parts (nat_le FEWEST_PARTS (length vs)) (nat_le (length vs) MOST_PARTS) e in
    cond-true (nat_lt 0 (length vs) && nat_le (length vs) 5) (map part_of vs) (part.Int (pos 0) ∷ [])
    (and_from (nat_lt 0 (length vs)) (nat_le (length vs) 5) (lt-ltb 0 (length vs) (leb-true 1 (length vs) are.0)) are.1)

pub count_of : (vs : List Value) (ks : List Kind) → map value_kind vs ≡ ks → length vs ≡ length ks
count_of vs ks e = sym (length-map vs value_kind) ∙ ap length e

-- a row is written whole
whole_row : (table : Table) → shape_fits table ≡ true → {c : Sure (List Value)} (v : Got (List Value)) → IsSure (Values table.cols) c v
    → IsSure (IsRow table) (and_then c (λ vs. Some (Ok (Some vs)))) (got (got v (λ vs. Ok (take 16 vs))) (λ row. Ok (Some row)))
whole_row table shape (Ok vs) s =
    let few = leb-true (length table.cols) MOST_COLUMNS (and_parts (is_between FEWEST_PARTS MOST_PARTS (length table.key))
    (nat_le (length table.cols) MOST_COLUMNS) shape).1 in
    let all : take 16 vs ≡ vs = take_all 16 vs (subst (λ n. n ≤ 16) (sym (count_of vs table.cols s.value)) few) in
    rw (s.same, all) (record { same = refl; value = s.value })
whole_row table shape (Err e) s = rw s.same (record { same = refl; value = tt })

module _ {tables : List Table} {t parts : ℕ} {table : Table} (at : Keyed tables t parts table) (r : Request)
    (item : List ℤ) {plain : List Value} {careful : List (Option Value)} where
  key_sure : (ks : List Term) (kinds : List Kind) (f : Found r item plain careful [] ks kinds) → kinds ≡ table.key
      → IsSure (IsKey t table) (careful_key r item careful t ks) (key_from r item plain t ks)
  key_sure ks kinds f e = then_sure (Values f.more) (IsKey t table) (values_of r item plain ks)
      (λ vs. Some (Ok (record { table = t; parts = map part_of vs }))) (λ vs. Ok (record { table = t; parts = parts_of vs })) (f.sure []) (λ vs are.
      let kinds_are = are ∙ sym f.are ∙ e in
      let all = all_parts vs (ap (is_between FEWEST_PARTS MOST_PARTS) (count_of vs table.key kinds_are)
      ∙ (and_parts (is_between FEWEST_PARTS MOST_PARTS (length table.key)) (nat_le (length table.cols) MOST_COLUMNS) at.shape).0) in
      record {
        same = ap (λ (ps : List _). Some (Ok (record { table = t; parts = ps }))) (sym all);
        value =
            record { table_is = refl; kinds_are = ap (map part_kind) all ∙ parts_kinds vs ∙ kinds_are };
      })

  -- of the statements that give only a key
  pub agreed_key : (s : Scope) (set : Set) (c : Context s r item) (regs : Registers s.regs set plain careful) (ks : List Term)
      → IfOk (agree table.key (kinds_after s set [] ks)) (λ _. IsSure (IsKey t table) (careful_key r item careful t ks) (key_from r item plain t ks))
  agreed_key s set c regs ks = got_ok (kinds_after s set [] ks) (λ kinds. wanted KIND (same_kinds kinds table.key)) (Found r item plain careful [] ks)
      (λ _. IsSure (IsKey t table) (careful_key r item careful t ks) (key_from r item plain t ks)) (found_all c regs [] ks)
      (λ kinds f. wanted_is KIND (same_kinds kinds table.key) (λ same. key_sure ks kinds f ((same_kinds-decides kinds table.key).0 same)))

  row_sure : (es : List Term) (before kinds : List Kind) (f : Found r item plain careful before es kinds) → f.more ≡ table.cols
      → IsSure (IsRow table) (careful_row r item careful es) (got (row_from r item plain es) (λ row. Ok (Some row)))
  row_sure es before kinds f e = whole_row table at.shape (values_of r item plain es)
      (subst (λ ks. IsSure (Values ks) (careful_values r item careful [] es) (values_of r item plain es)) e (f.sure []))

  -- and of those that give a row as well
  pub agreed_row : (s : Scope) (set : Set) (c : Context s r item) (regs : Registers s.regs set plain careful) (ks es : List Term) → length ks ≡ length table.key
      → IfOk (agree (table.key ++ table.cols) (got (kinds_after s set [] ks) (λ kinds. kinds_after s set kinds es)))
      (λ _. IsSure (IsKey t table) (careful_key r item careful t ks) (key_from r item plain t ks)
      × IsSure (IsRow table) (careful_row r item careful es) (got (row_from r item plain es) (λ row. Ok (Some row))))
  agreed_row s set c regs ks es l =
      let P = λ (all : List Kind). (kinds : List Kind) × Found r item plain careful [] ks kinds × Found r item plain careful kinds es all in
      let Q = IsSure (IsKey t table) (careful_key r item careful t ks) (key_from r item plain t ks)
      × IsSure (IsRow table) (careful_row r item careful es) (got (row_from r item plain es) (λ row. Ok (Some row))) in
      got_ok (got (kinds_after s set [] ks) (λ kinds. kinds_after s set kinds es)) (λ all. wanted KIND (same_kinds all (table.key ++ table.cols))) P (λ _. Q)
      (got_ok (kinds_after s set [] ks) (λ kinds. kinds_after s set kinds es) (Found r item plain careful [] ks) P (found_all c regs [] ks) (λ kinds f.
      IfOk-weaker (kinds_after s set kinds es) (Found r item plain careful kinds es) P (λ all g. (kinds, f, g)) (found_all c regs kinds es)))
      (λ all p. wanted_is KIND (same_kinds all (table.key ++ table.cols)) (λ same.
      let parted = fronts_same p.0 p.2.more table.key table.cols (sym p.2.are ∙ (same_kinds-decides all (table.key ++ table.cols)).0 same) (ap length p.1.are
      ∙ p.1.count ∙ l) in
      (key_sure ks p.0 p.1 parted.0, row_sure es p.0 all p.2 parted.1)))

-- ---- accesses

module _ {tables : List Table} {t parts : ℕ} {table : Table} (at : Keyed tables t parts table) {key : Key} (is : IsKey t table key) where
  pub has_place_it : (row : Option Cells) → IsRow table row → has_place tables key row ≡ true
  has_place_it row fits =
      let test = λ (table : Table). same_kinds (map part_kind key.parts) table.key && has_columns table row in
      ap (λ t. holds_of (slice_get tables t) test) is.table_is ∙ ap (λ o. holds_of o test) at.there_is
      ∙ and_from _ _ ((same_kinds-decides (map part_kind key.parts) table.key).1 is.kinds_are) (of_row row fits)
    where
      of_row : (row : Option Cells) → IsRow table row → has_columns table row ≡ true
      of_row None fits = refl
      of_row (Some cells) fits = (same_kinds-decides (map value_kind cells) table.cols).1 fits

  same_table : slice_get tables key.table ≡ Some table
  same_table = ap (slice_get tables) is.table_is ∙ at.there_is

  pub may_stand_at : (row : Option Cells) → IsRow table row → MayStand tables key row
  may_stand_at None fits = tt
  may_stand_at (Some cells) fits = subst (λ o. IsSomeAnd o (λ table. (map part_kind key.parts ≡ table.key) × (map value_kind cells ≡ table.cols)))
      (sym same_table) (is.kinds_are, fits)

  pub row_at : (row : Option Cells) → MayStand tables key row → IsRow table row
  row_at None fits = tt
  row_at (Some cells) fits = (subst (λ o. IsSomeAnd o (λ table. (map part_kind key.parts ≡ table.key) × (map value_kind cells ≡ table.cols))) same_table fits).1

module _ {tables : List Table} {t parts : ℕ} {table : Table} (at : Keyed tables t parts table) {W : ℕ → Type 0} {kinds : List Kind} {set : Set} where
  pub reads_like : {c : Sure Key} (v : Got Key) → IsSure (IsKey t table) c v → (go : Frame → Option Cells → Run) (go' : State → Option Cells → Careful)
      → ((row : Option Cells) → IsRow table row → Follows tables W kinds set (λ f. go f row) (λ s. go' s row)) → (i : States W kinds set)
      → Like tables (plain.reads v go i.frame) (reads tables c go' i.state)
  reads_like v sure go go' h i = with_like tables (IsKey t table) v (λ key. plain.counted i.frame (λ f. Reads key (go f)))
      (λ key. checked (has_place tables key None) (counted (λ s. Reads key (go' s)) i.state)) sure (λ key is.
      checked_like tables (has_place tables key None) (plain.counted i.frame (λ f. Reads key (go f))) (counted (λ s. Reads key (go' s)) i.state)
      (has_place_it at is None tt)
      (counted_like tables (λ f. Reads key (go f)) (λ s. Reads key (go' s)) (record { like = λ j. (refl, λ row fits. (h row (row_at at is row fits)).like j) })
      i))

  pub writes_like : {c : Sure Key} {d : Sure (Option Cells)} (v : Got Key) (w : Got (Option Cells)) → IsSure (IsKey t table) c v → IsSure (IsRow table) d w
      → (next : plain.Next) (next' : Next)
      → Follows tables W kinds set next next' → (i : States W kinds set) → Like tables (plain.writes v w next i.frame) (writes tables c d next' i.state)
  writes_like {c} {d} v w key row next next' h i = with_like tables (λ p. IsKey t table p.0 × IsRow table p.1) (both v w)
      (λ p. plain.counted i.frame (λ f. Writes p.0 p.1 (next f))) (λ p. checked (has_place tables p.0 p.1) (counted (λ s. Writes p.0 p.1 (next' s)) i.state))
      (pair_sure (IsKey t table) (IsRow table) v w key row) (λ p is.
      checked_like tables (has_place tables p.0 p.1) (plain.counted i.frame (λ f. Writes p.0 p.1 (next f))) (counted (λ s. Writes p.0 p.1 (next' s)) i.state)
      (has_place_it at is.0 p.1 is.1)
      (counted_like tables (λ f. Writes p.0 p.1 (next f)) (λ s. Writes p.0 p.1 (next' s))
      (record { like = λ j. (refl, refl, may_stand_at at is.0 p.1 is.1, h.like j) }) i))
