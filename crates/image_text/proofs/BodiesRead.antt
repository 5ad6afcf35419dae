-- A body is read exactly where it is the text of some values.
use Rattle.std.proofs.Common.{◌≡◌, ◌≢◌, ℕ, zero, suc, ◌+◌, ◌<◌, ◌≤◌, ◌^◌, List, [], ◌∷◌, ◌++◌, map, get_or, Option, Some, None, Bool, true, false, cond, refl, ap, subst, sym, ◌∙◌, arith}
use Rattle.std.specs.Prelude.{All, option_map, option_and_then, slice_index, ◌==◌}
use Rattle.std.specs.FinMap as fin
use Rattle.std.proofs.lemmas.List.{append_assoc}
use Rattle.std.proofs.lemmas.Grind.{flat_map-append}
use Rattle.std.proofs.lemmas.List.Elements.{All-head, All-tail, All-nil, All-append, All-map}
use Rattle.aria_base.specs.Orders.{Cells, Database, key_cmp}
use Rattle.aria_base.specs.Schemas.{Fits, IsConsistent}
use Rattle.aria_base.specs.declared.keys.Key.{Key}
use Rattle.aria_base.specs.declared.calls.Request.{Request}
use Rattle.proc_lang.specs.Catalogs.{Plan, IsCatalog, takes}
use Rattle.cat_forms.specs.Texts.{Tells}
use Rattle.batch_rules.proofs.Lists.{All-unmapped}
use Rattle.script_text.specs.Cuts.{Lacks}
use Rattle.script_text.specs.Written.{IsArgs}
use Rattle.image_text.specs.Lines.{lines_text, written, lines_taken}
use Rattle.image_text.specs.Exactly.{line_of_row, exact_row, IsRowOf}
use Rattle.image_text.specs.Helds.{line_of_held, exact_held}
use Rattle.image_text.specs.Entries.{Entry, OfRow, OfHeld, line_of, IsEntryOf, entry_of, Taken, nothing, push, take, IsRowHeld, AreHeld}
use Rattle.image_text.specs.Fronts.{catalog_text, front_text, front_of, IsNoPiece}
use Rattle.image_text.specs.Bodies.{Values, entry_lines, body_text, IsBody, AreThose, read_rest, read_body}
use Rattle.image_text.proofs.LinesTaken.{written_is, items_again, items_read}
use Rattle.image_text.proofs.Exactness.{row_written, row_read, row_lacks}
use Rattle.image_text.proofs.HeldsAgain.{held_written, held_read, held_lacks}
use Rattle.image_text.proofs.RowsRise.{ascend, entries_again, entries_rise, entry_there, entries_found}
use Rattle.image_text.proofs.EntriesPushed.{taken_of, entries_in, entries_pushed, grown}
use Rattle.image_text.proofs.FrontsRead.{front_again, front_read}

-- ---- one entry

entry_written : (plan : Plan) → IsCatalog plan → (x : Entry) → IsEntryOf plan x → entry_of plan (line_of plan x) ≡ Some x
entry_written plan is (OfRow row) h = ap (option_map OfRow) (row_written plan row is h)
entry_written plan is (OfHeld r) h = ap (option_map OfHeld) (held_written plan r is h)

entry_lacks : (plan : Plan) → IsCatalog plan → (x : Entry) → IsEntryOf plan x → Lacks 10 (line_of plan x)
entry_lacks plan is (OfRow row) h = row_lacks plan row is h
entry_lacks plan is (OfHeld r) h = held_lacks plan r is h

-- what is so of every entry that is read
abbrev Fit : Plan → Entry → Type 0
Fit plan (OfRow row) = Fits plan.tables row.0 row.1
Fit plan (OfHeld r) = takes plan r.call ≡ true

entry_read : (plan : Plan) (line : List ℕ) (x : Entry) → entry_of plan line ≡ Some x → (line ≡ line_of plan x) × Fit plan x
entry_read plan line x e = by (slice_index line 0 == 104) e
  where
    by_held : (o : Option Request) → exact_held plan line ≡ o → option_map OfHeld o ≡ Some x → (line ≡ line_of plan x) × Fit plan x
    by_held None w k = cc
    by_held (Some r) w k = let same : OfHeld r ≡ x = cc in subst (λ (y : Entry). (line ≡ line_of plan y) × Fit plan y) same (held_read plan line r w)

    by_row : (o : Option (Key × Cells)) → exact_row plan line ≡ o → option_map OfRow o ≡ Some x → (line ≡ line_of plan x) × Fit plan x
    by_row None w k = cc
    by_row (Some row) w k = let same : OfRow row ≡ x = cc in subst (λ (y : Entry). (line ≡ line_of plan y) × Fit plan y) same (row_read plan line row w)

    by : (b : Bool) → cond b (option_map OfHeld (exact_held plan line)) (option_map OfRow (exact_row plan line)) ≡ Some x → (line ≡ line_of plan x) × Fit plan x
    by true k = by_held (exact_held plan line) refl k
    by false k = by_row (exact_row plan line) refl k

-- ---- all entries

lines_of_entries : (plan : Plan) (rows : List (Key × Cells)) (held : List Request)
    → map (line_of plan) (entries_in rows held) ≡ map (line_of_row plan) rows ++ map (line_of_held plan) held
lines_of_entries plan [] [] = refl
lines_of_entries plan [] (r ∷ held) = ap (λ (l : List (List ℕ)). line_of_held plan r ∷ l) (lines_of_entries plan [] held)
lines_of_entries plan (row ∷ rows) held = ap (λ (l : List (List ℕ)). line_of_row plan row ∷ l) (lines_of_entries plan rows held)

all_entries : (plan : Plan) (P : Entry → Type 0) (rows : List (Key × Cells)) (held : List Request) → All (λ row. P (OfRow row)) rows
    → All (λ r. P (OfHeld r)) held → All P (entries_in rows held)
all_entries plan P rows held a b = All-append P (map OfRow rows) (map OfHeld held) (All-map P OfRow rows a) (All-map P OfHeld held b)

all_rows : (P : Entry → Type 0) (rows : List (Key × Cells)) (held : List Request) → All P (entries_in rows held) → All (λ row. P (OfRow row)) rows
all_rows P [] held all = All-nil (λ row. P (OfRow row))
all_rows P (row ∷ rows) held all = one_more (All-head P (OfRow row) (entries_in rows held) all)
    (all_rows P rows held (All-tail P (OfRow row) (entries_in rows held) all))
  where
    one_more : P (OfRow row) → All (λ row. P (OfRow row)) rows → All (λ row. P (OfRow row)) (row ∷ rows)
    one_more h all zero d below = h
    one_more h all (suc i) d below = all i d (omega arith)

all_held : (P : Entry → Type 0) (rows : List (Key × Cells)) (held : List Request) → All P (entries_in rows held) → All (λ r. P (OfHeld r)) held
all_held P [] held all = All-unmapped P OfHeld held all
all_held P (row ∷ rows) held all = all_held P rows held (All-tail P (OfRow row) (entries_in rows held) all)

-- ---- forth

-- what stands behind the catalogue begins with the letter of `row` or of `held`
no_piece : (plan : Plan) (rows : List (Key × Cells)) (held : List Request)
    → IsNoPiece (lines_text (map (line_of_row plan) rows ++ map (line_of_held plan) held))
no_piece plan [] [] = λ e. omega (arith, e)
no_piece plan [] (r ∷ held) = λ e. omega (arith, e)
no_piece plan (row ∷ rows) held = λ e. omega (arith, e)

body_taken : (bytes : List ℕ) (v : Values) → IsBody bytes v → read_body bytes ≡ Some (v.0, (taken_of (fin.entries v.1) (v.2)))
body_taken bytes v h =
    let plan = v.0 in
    let rows = fin.entries v.1 in
    let rest = lines_text (entry_lines plan v.1 v.2) in
    let front : front_of bytes ≡ Some (plan, rest) = ap front_of h.text ∙ front_again plan rest h.catalog h.told (no_piece plan rows v.2) in
    let pushed = entries_pushed (entry_of plan) rows [] v.2 (entries_rise v.1) in
    let taken : lines_taken (take plan) nothing rest ≡ Some (taken_of (rows) (v.2)) =
    ap (λ (l : List (List ℕ)). lines_taken (take plan) nothing (lines_text l)) (sym (lines_of_entries plan rows v.2))
    ∙ items_again (line_of plan) (entry_of plan) push (IsEntryOf plan) (entry_written plan h.catalog) (entry_lacks plan h.catalog)
    (entries_in rows v.2) nothing (taken_of (rows) (v.2))
    (all_entries plan (IsEntryOf plan) rows v.2 h.rows h.held) pushed in
    ap (option_and_then read_rest) front ∙ ap (option_map (λ s. (plan, s))) taken

-- ---- back

record IsRead (bytes : List ℕ) (plan : Plan) (s : Taken) : Type 0 where
  text : bytes ≡ lines_text (map (line_of_row plan) s.rows ++ map (line_of_held plan) s.held)
  rising : ascend None s.rows ≡ true
  rows : All (λ row. Fits plan.tables row.0 row.1) s.rows
  held : All (λ r. takes plan r.call ≡ true) s.held

rest_read : (plan : Plan) (bytes : List ℕ) (s : Taken) → lines_taken (take plan) nothing bytes ≡ Some s → IsRead bytes plan s
rest_read plan bytes s e =
    let k = items_read (line_of plan) (entry_of plan) push (Fit plan) (entry_read plan) bytes nothing s e in
    let g = grown (entry_of plan) k.items nothing s k.pushed in
    let each : All (Fit plan) (entries_in g.rows g.held) = subst (All (Fit plan)) g.items k.each in
    record {
      text = k.text ∙ ap (λ (xs : List Entry). lines_text (map (line_of plan) xs)) g.items ∙ ap lines_text (lines_of_entries plan g.rows g.held)
          ∙ ap (λ (l : List (Key × Cells)). lines_text (map (line_of_row plan) l ++ map (line_of_held plan) g.held)) (sym g.rows_are)
          ∙ ap (λ (l : List Request). lines_text (map (line_of_row plan) s.rows ++ map (line_of_held plan) l)) (sym g.held_are);
      rising = ap (ascend None) g.rows_are ∙ g.rising;
      rows = subst (All (λ row. Fits plan.tables row.0 row.1)) (sym g.rows_are) (all_rows (Fit plan) g.rows g.held each);
      held = subst (All (λ r. takes plan r.call ≡ true)) (sym g.held_are) (all_held (Fit plan) g.rows g.held each);
    }

pub rest_rises : (plan : Plan) (bytes : List ℕ) (s : Taken) → lines_taken (take plan) nothing bytes ≡ Some s
    → fin.entries (fin.from_entries {R = key_cmp} s.rows) ≡ s.rows
rest_rises plan bytes s e = entries_again s.rows (rest_read plan bytes s e).rising

is_body : (bytes rest : List ℕ) (v : Values) → bytes ≡ front_text v.0 ++ rest → IsCatalog v.0 → Tells (catalog_text v.0) v.0
    → lines_taken (take v.0) nothing rest ≡ Some (taken_of (fin.entries v.1) (v.2)) → AreHeld (taken_of (fin.entries v.1) (v.2)) → IsBody bytes v
is_body bytes rest v e is told taken there =
    let k = rest_read v.0 rest (taken_of (fin.entries v.1) (v.2)) taken in
    record {
      text = e ∙ ap (λ (l : List ℕ). front_text v.0 ++ l) k.text;
      catalog = is;
      told = told;
      rows = λ i d below. let h = there.rows i d below in record { fit = k.rows i d below; parts = h.parts; cells = h.cells };
      held = λ i d below. let h = there.held i d below in record { number = h.number; call = record { fit = k.held i d below; args = h.args } };
    }

-- the rows that are taken make a database, and the requests behind them
pub rest_found : (plan : Plan) (bytes : List ℕ) (s : Taken) (rows : List (Key × Cells)) (held : List Request) (db : Database)
    → Some s ≡ lines_taken (take plan) nothing bytes
    → rows ≡ s.rows → held ≡ s.held → db ≡ fin.from_entries {R = key_cmp} rows → taken_of (fin.entries db) held ≡ s
rest_found plan bytes s rows held db e r h t =
    let back : fin.entries db ≡ s.rows = ap fin.entries (t ∙ ap (λ (l : List (Key × Cells)). fin.from_entries {R = key_cmp} l) r)
    ∙ rest_rises plan bytes s (sym e) in
    ap (λ (l : List (Key × Cells)). taken_of l held) back ∙ ap (taken_of s.rows) h

pub body_found : (bytes rest : List ℕ) (v : Values) → Some (v.0, rest) ≡ front_of bytes → IsCatalog v.0 → Tells (catalog_text v.0) v.0
    → Some (taken_of (fin.entries v.1) v.2) ≡ lines_taken (take v.0) nothing rest → AreHeld (taken_of (fin.entries v.1) v.2) → IsBody bytes v
body_found bytes rest v f is told taken there = is_body bytes rest v (front_read bytes (v.0, rest) (sym f)) is told (sym taken) there

pub no_front : (bytes : List ℕ) → None ≡ front_of bytes → AreThose bytes None
no_front bytes e = λ v h. let k = body_taken bytes v h in let w : read_body bytes ≡ None = ap (option_and_then read_rest) (sym e) in let no = sym k ∙ w in cc

pub no_rest : (bytes rest : List ℕ) (plan : Plan) → Some (plan, rest) ≡ front_of bytes → None ≡ lines_taken (take plan) nothing rest → AreThose bytes None
no_rest bytes rest plan e n = λ v h.
    let k = body_taken bytes v h in
    let w : read_body bytes ≡ None = ap (option_and_then read_rest) (sym e) ∙ ap (option_map (λ s. (plan, s))) (sym n) in
    let no = sym k ∙ w in cc

-- the rows fit
pub body_fits : (bytes : List ℕ) (v : Values) → IsBody bytes v → IsConsistent v.0.tables v.1
body_fits bytes v h key row e = (entries_found (IsRowOf v.0) v.1 h.rows key row e).fit

-- and so do the requests
pub held_fit : (bytes : List ℕ) (v : Values) → IsBody bytes v → All (λ r. takes v.0 r.call ≡ true) v.2
held_fit bytes v h = λ i d below. (h.held i d below).call.fit

-- ---- these are the only values

pub one_body : (bytes : List ℕ) (v w : Values) → IsBody bytes v → IsBody bytes w → v ≡ w
one_body bytes v w h k =
    let both : ◌≡◌ {A = Option (Plan × Taken)} (Some (v.0, (taken_of (fin.entries v.1) (v.2)))) (Some (w.0, (taken_of (fin.entries w.1) (w.2)))) =
    sym (body_taken bytes v h) ∙ body_taken bytes w k in
    let same : ◌≡◌ {A = Plan × Taken} (v.0, (taken_of (fin.entries v.1) (v.2))) (w.0, (taken_of (fin.entries w.1) (w.2))) = cc in
    let plans : v.0 ≡ w.0 = ap (λ (x : Plan × Taken). x.0) same in
    let rows : v.1 ≡ w.1 = fin.same_entries_map v.1 w.1 (ap (λ (x : Plan × Taken). x.1.rows) same) in
    let held : v.2 ≡ w.2 = ap (λ (x : Plan × Taken). x.1.held) same in
    λ i. (plans i, rows i, held i)

-- ---- what is written

pub body_written : (bytes : List ℕ) (v : Values) → bytes ≡ body_text v.0 v.1 v.2 → IsCatalog v.0 → Tells (catalog_text v.0) v.0 → IsConsistent v.0.tables v.1
    → All (λ r. takes v.0 r.call ≡ true) v.2 → All IsRowHeld (fin.entries v.1) → All (λ r. IsArgs r.call.args) v.2 → All (λ r. r.q < 2 ^ 63) v.2
    → IsBody bytes v
body_written bytes v e is told fit calls rows args small = record {
  text = e;
  catalog = is;
  told = told;
  rows = λ i d below. let h = rows i d below in record {
    fit =
        fit (get_or (fin.entries v.1) i d).0 (get_or (fin.entries v.1) i d).1 (entry_there v.1 i d below);
    parts = h.parts;
    cells = h.cells;
  };
  held = λ i d below. record { number = small i d below; call = record { fit = calls i d below; args = args i d below } };
}

rows_written : {X : Type 0} (f : X → Key × Cells) (plan : Plan) (xs : List X)
    → written (λ x. line_of_row plan (f x)) xs ≡ lines_text (map (line_of_row plan) (map f xs))
rows_written f plan [] = refl
rows_written f plan (x ∷ xs) = ap (λ (l : List ℕ). (line_of_row plan (f x) ++ 10 ∷ []) ++ l) (rows_written f plan xs)

pub body_joined : {X : Type 0} (f : X → Key × Cells) (plan : Plan) (db : Database) (held : List Request) (xs : List X) (one two all : List ℕ)
    → map f xs ≡ fin.entries db → one ≡ front_text plan → two ≡ one ++ written (λ x. line_of_row plan (f x)) xs → all ≡ two ++ written (line_of_held plan) held
    → all ≡ body_text plan db held
body_joined f plan db held xs one two all m a b c =
    let front = front_text plan in
    let rows = map (line_of_row plan) (fin.entries db) in
    let requests = map (line_of_held plan) held in
    let listed : written (λ x. line_of_row plan (f x)) xs ≡ lines_text rows = rows_written f plan xs
    ∙ ap (λ (l : List (Key × Cells)). lines_text (map (line_of_row plan) l)) m in
    let both : two ≡ front ++ lines_text rows = b ∙ ap (λ (l : List ℕ). l ++ written (λ x. line_of_row plan (f x)) xs) a
    ∙ ap (λ (l : List ℕ). front ++ l) listed in
    c ∙ ap (λ (l : List ℕ). l ++ written (line_of_held plan) held) both
    ∙ ap (λ (l : List ℕ). (front ++ lines_text rows) ++ l) (written_is (line_of_held plan) held)
    ∙ append_assoc front (lines_text rows) (lines_text requests)
    ∙ ap (λ (l : List ℕ). front ++ l) (sym (flat_map-append (λ line. line ++ 10 ∷ []) rows requests))

pub rows_held : {X : Type 0} (f : X → Key × Cells) (db : Database) (xs : List X) → map f xs ≡ fin.entries db → All (λ x. IsRowHeld (f x)) xs
    → All IsRowHeld (fin.entries db)
rows_held f db xs m all = subst (All IsRowHeld) m (All-map IsRowHeld f xs all)
