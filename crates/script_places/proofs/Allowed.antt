-- What a line asks for at a place is allowed there.
use Rattle.std.proofs.Common.{◌≡◌, ◌∙◌, sym, ap, subst, refl, ℕ, ℤ, pos, negsuc, ◌+◌, ◌<◌, ◌≤◌, Bool, true, false, not, ◌&&◌, ◌||◌, cond, List, [], ◌∷◌, ◌++◌, length, map, Option, Some, None, arith, nat_lt, nat_le}
use Rattle.std.proofs.lemmas.Bool.{leb-false, leb-true, ltb-false, ltb-true}
use Rattle.std.specs.Prelude.{Result, Ok, Err, codes, bytes_eq, ◌==◌}
use Rattle.std.specs.Option.{IsSomeAnd}
use Rattle.std.specs.List.{slice_get}
use Rattle.aria_base.specs.Kinds.{part_kind, value_kind}
use Rattle.aria_base.specs.Orders.{Cells}
use Rattle.aria_base.specs.Schemas.{Fits}
use Rattle.aria_base.specs.declared.calls.Arg.{Arg}
use Rattle.aria_base.specs.declared.calls.Call.{Call}
use Rattle.aria_base.specs.declared.keys.Key.{Key}
use Rattle.aria_base.specs.declared.keys.Part.{Part}
use Rattle.aria_base.specs.declared.limits.TheConstants.{GREATEST_NUMBER, MOST_PERCENT, MOST_REQUESTS}
use Rattle.aria_base.specs.declared.schemas.Table.{Table}
use Rattle.aria_base.specs.declared.values.Kind.{Kind}
use Rattle.aria_base.specs.declared.values.Kind.TheVariants as kind
use Rattle.proc_lang.specs.Catalogs.{Plan, takes}
use Rattle.cat_builtin.specs.Builtins.{builtin_named}
use Rattle.cat_text.specs.Texts.{catalog_of}
use Rattle.script_text.specs.Fits.{and_then, are_kinds, fits_table, row_fits, row_in, placed_row, table_named, call_of, placed_call, proc_named, with_percent, settings_by, placed_settings, rule_named}
use Rattle.script_text.specs.Forms.{said}
use Rattle.script_text.specs.declared.items.Item.{Item}
use Rattle.script_text.specs.declared.items.Item.TheVariants as item
use Rattle.script_text.specs.declared.refusals.CatFault.TheVariants.{Long}
use Rattle.script_text.specs.declared.refusals.RefusalKind.{RefusalKind}
use Rattle.script_text.specs.declared.refusals.RefusalKind.TheVariants.{Site, Name, Argument, Batch, Gap, Numbers, Catalog, Unfinished}
use Rattle.script_places.specs.Places.{Asked, asked, by_head, in_text, item_in_text, behind_text, read_text, refused_in_text, is_byte, at_item, at_catalog, found, at_piece, at_row, puts, at_call, calls, at_end, ends, runs, closed, at_settings, sets, rule_of, at_report, under, next_line, without_head, is_check, is_audit, is_unnamed, has_batches, has_catalog, shut, closing, closed_by}
use Rattle.script_places.specs.Follows.{Follows, Allows, HeadStays, IsReadyWith}
use Rattle.script_places.specs.declared.deeds.Deed.{Deed}
use Rattle.script_places.specs.declared.deeds.Deed.TheVariants as deed
use Rattle.script_places.specs.declared.heads.ScriptCatalog.{ScriptCatalog}
use Rattle.script_places.specs.declared.heads.ScriptCatalog.TheVariants as head
use Rattle.script_places.specs.declared.limits.TheConstants.{MOST_CATALOG}
use Rattle.script_places.specs.declared.places.Counts.{Counts}
use Rattle.script_places.specs.declared.places.ScriptPlace.{ScriptPlace}

-- ---- how an answer came about

-- of a condition: one of the two
data Branch (A : Type 0) (b : Bool) (x y r : A) : Type 0 where
  on_yes : b ≡ true → x ≡ r → Branch A b x y r
  on_no : b ≡ false → y ≡ r → Branch A b x y r

branch : (A : Type 0) (b : Bool) (x y r : A) → cond b x y ≡ r → Branch A b x y r
branch A true x y r e = on_yes refl e
branch A false x y r e = on_no refl e

-- of what goes on with a value: there was one
data Step (A B : Type 0) (f : A → Result B RefusalKind) (m : Result A RefusalKind) (r : B) : Type 0 where
  stepped : (a : A) → m ≡ Ok a → f a ≡ Ok r → Step A B f m r

step : (A B : Type 0) (f : A → Result B RefusalKind) (m : Result A RefusalKind) (r : B) → and_then f m ≡ Ok r → Step A B f m r
step A B f (Ok a) r e = stepped a refl e
step A B f (Err why) r e = absurd cc

-- of what needs a catalogue: it was there
data Under (h : ScriptCatalog) (ask : Plan → Asked) (r : ScriptPlace × Deed) : Type 0 where
  there : (plan : Plan) → h ≡ head.Ready plan → ask plan ≡ Ok r → Under h ask r

stands : (h : ScriptCatalog) (ask : Plan → Asked) (r : ScriptPlace × Deed) → under h ask ≡ Ok r → Under h ask r
stands head.Unnamed ask r e = absurd cc
stands (head.Text text) ask r e = absurd cc
stands (head.Ready plan) ask r e = there plan refl e

-- what was found
abbrev fine : {A : Type 0} → A → Result A RefusalKind
fine a = Ok a

ok_is : {A : Type 0} (x y : A) → fine x ≡ fine y → x ≡ y
ok_is x y e = cc

stays : (h : ScriptCatalog) → HeadStays h h
stays head.Unnamed = tt
stays (head.Text text) = tt
stays (head.Ready plan) = refl

ready_with : (h : ScriptCatalog) (plan : Plan) (P : Plan → Type 0) → h ≡ head.Ready plan → P plan → IsReadyWith h P
ready_with h plan P e p = subst (λ (k : ScriptCatalog). IsReadyWith k P) (sym e) p

-- ---- rows and calls of a catalogue

kinds_same : (given wanted : List Kind) → are_kinds given wanted ≡ true → given ≡ wanted
kinds_same [] [] e = refl
kinds_same [] (w ∷ wanted) e = absurd cc
kinds_same (g ∷ given) [] e = absurd cc
kinds_same (kind.Int ∷ given) (kind.Int ∷ wanted) e = ap (λ l. kind.Int ∷ l) (kinds_same given wanted e)
kinds_same (kind.Int ∷ given) (kind.Text ∷ wanted) e = absurd cc
kinds_same (kind.Text ∷ given) (kind.Int ∷ wanted) e = absurd cc
kinds_same (kind.Text ∷ given) (kind.Text ∷ wanted) e = ap (λ l. kind.Text ∷ l) (kinds_same given wanted e)

both : (a b : Bool) → (a && b) ≡ true → (a ≡ true) × (b ≡ true)
both true b e = (refl, e)
both false b e = absurd cc

in_table : (key : Key) (row : Cells) (table : Option Table) → fits_table key row table ≡ true
    → IsSomeAnd table (λ t. (map part_kind key.parts ≡ t.key) × (map value_kind row ≡ t.cols))
in_table key row None e = absurd cc
in_table key row (Some t) e =
    let two = both (are_kinds (map part_kind key.parts) t.key) (are_kinds (map value_kind row) t.cols) e in
    (kinds_same (map part_kind key.parts) t.key two.0, kinds_same (map value_kind row) t.cols two.1)

row_of : (plan : Plan) (parts : List Part) (row : Cells) (table : Option ℕ) (r : Key × Cells) → row_in plan parts row table ≡ Ok r → Fits plan.tables r.0 r.1
row_of plan parts row None r e = absurd cc
row_of plan parts row (Some table) r e =
    let key : Key = record { table = table; parts = parts } in
    elim (branch (Result (Key × Cells) RefusalKind) (row_fits plan.tables key row) (Ok (key, row)) (Err Argument) (Ok r) e) [
      | on_yes fits is ↦ subst (λ (p : Key × Cells). Fits plan.tables p.0 p.1) (ok_is (key, row) r is) (in_table key row (slice_get plan.tables table) fits)
      | on_no fits is ↦ absurd cc
    ]

call_in : (plan : Plan) (args : List Arg) (proc : Option ℕ) (r : Call) → call_of plan args proc ≡ Ok r → takes plan r ≡ true
call_in plan args None r e = absurd cc
call_in plan args (Some proc) r e =
    let call : Call = record { proc = proc; args = args } in
    elim (branch (Result Call RefusalKind) (takes plan call) (Ok call) (Err Argument) (Ok r) e) [
      | on_yes fits is ↦ subst (λ (c : Call). takes plan c ≡ true) (ok_is call r is) fits
      | on_no fits is ↦ absurd cc
    ]

percent_of : (rule : ℕ) (percent : ℤ) (r : ℕ × ℕ) → with_percent rule percent ≡ Ok r → r.1 ≤ MOST_PERCENT
percent_of rule (pos n) r e = elim (branch (Result (ℕ × ℕ) RefusalKind) (nat_le n MOST_PERCENT) (Ok (rule, n)) (Err Argument) (Ok r) e) [
  | on_yes fits is ↦ subst (λ (q : ℕ × ℕ). q.1 ≤ MOST_PERCENT) (ok_is (rule, n) r is) (leb-true n MOST_PERCENT fits)
  | on_no fits is ↦ absurd cc
]
percent_of rule (negsuc n) r e = absurd cc

settings_in : (rule : Option ℕ) (percent : ℤ) (r : ℕ × ℕ) → settings_by rule percent ≡ Ok r → r.1 ≤ MOST_PERCENT
settings_in None percent r e = absurd cc
settings_in (Some rule) percent r e = percent_of rule percent r e

-- ---- a line, by its form

abbrev Says : ScriptPlace → Counts → ScriptPlace × Deed → Type 0
Says p counts r = Follows p counts r.0 r.1

-- the answer is this one
is_this : (p : ScriptPlace) (counts : Counts) (x r : ScriptPlace × Deed) → fine x ≡ fine r → Says p counts x → Says p counts r
is_this p counts x r e h = subst (λ (q : ScriptPlace × Deed). Says p counts q) (ok_is x r e) h

at_rest : (p : ScriptPlace) (counts : Counts) → Says p counts (p, deed.Nothing)
at_rest p counts = record { mode_stays = refl; head_stays = stays p.head; allows = record { calls = refl; rows = λ e. e } }

-- a catalogue comes where none was
comes : (p : ScriptPlace) (counts : Counts) (h : ScriptCatalog) → HeadStays p.head h → Says p counts (record p { head = h }, deed.Nothing)
comes p counts h first = record { mode_stays = refl; head_stays = first; allows = record { calls = refl; rows = λ e. e } }

unnamed : (h next : ScriptCatalog) (a : Bool) → not (a && is_unnamed h) ≡ false → HeadStays h next
unnamed head.Unnamed next a e = tt
unnamed (head.Text text) next a e = tt
unnamed (head.Ready plan) next true e = absurd cc
unnamed (head.Ready plan) next false e = absurd cc

found_follows : (p : ScriptPlace) (counts : Counts) (plan : Option Plan) (r : ScriptPlace × Deed) → ((next : ScriptCatalog) → HeadStays p.head next)
    → found p plan ≡ Ok r
    → Says p counts r
found_follows p counts None r first e = absurd cc
found_follows p counts (Some plan) r first e = is_this p counts (record p { head = head.Ready plan }, deed.Nothing) r e
    (comes p counts (head.Ready plan) (first (head.Ready plan)))

catalog_follows : (p : ScriptPlace) (counts : Counts) (name : List ℕ) (r : ScriptPlace × Deed) → at_catalog p name ≡ Ok r → Says p counts r
catalog_follows p counts name r e =
    elim (branch Asked (not (has_catalog p.mode && is_unnamed p.head)) (Err Site) (cond (is_audit p.mode && not (bytes_eq name (codes "tpcc"))) (Err Name)
    (cond (bytes_eq name (codes "text")) (Ok (record p { head = head.Text [] }, deed.Nothing)) (found p (builtin_named name)))) (Ok r) e) [
      | on_yes off is ↦ absurd cc
      | on_no may is ↦
          let first : (next : ScriptCatalog) → HeadStays p.head next = λ next. unnamed p.head next (has_catalog p.mode) may in
          elim (branch Asked (is_audit p.mode && not (bytes_eq name (codes "tpcc"))) (Err Name)
          (cond (bytes_eq name (codes "text")) (Ok (record p { head = head.Text [] }, deed.Nothing)) (found p (builtin_named name))) (Ok r) is) [
            | on_yes off such ↦ absurd cc
            | on_no named such ↦
                elim (branch Asked (bytes_eq name (codes "text")) (Ok (record p { head = head.Text [] }, deed.Nothing)) (found p (builtin_named name))
                (Ok r) such) [
                  | on_yes text last ↦ is_this p counts (record p { head = head.Text [] }, deed.Nothing) r last
                      (comes p counts (head.Text []) (first (head.Text [])))
                  | on_no other last ↦ found_follows p counts (builtin_named name) r first last
                ]
          ]
    ]

row_follows : (p : ScriptPlace) (counts : Counts) (table : List ℕ) (parts : List Part) (row : Cells) (r : ScriptPlace × Deed) → at_row p table parts row ≡ Ok r
    → Says p counts r
row_follows p counts table parts row r e =
    elim (stands p.head (λ plan. cond p.rows_ended (Err Site) (and_then (puts p) (placed_row plan table parts row))) r e) [
      | there plan is may ↦ elim (branch Asked p.rows_ended (Err Site) (and_then (puts p) (placed_row plan table parts row)) (Ok r) may) [
        | on_yes off such ↦ absurd cc
        | on_no open_still such ↦ elim (step (Key × Cells) (ScriptPlace × Deed) (puts p) (placed_row plan table parts row) r such) [
          | stepped pair fits last ↦ is_this p counts (p, deed.Put pair.0 pair.1) r last (record {
            mode_stays = refl;
            head_stays = stays p.head;
            allows = record {
              fits = ready_with p.head plan (λ q. Fits q.tables pair.0 pair.1) is (row_of plan parts row (table_named plan table) pair fits);
              calls = refl;
              rows = open_still;
            };
          })
        ]
      ]
    ]

call_follows : (p : ScriptPlace) (counts : Counts) (proc : List ℕ) (args : List Arg) (r : ScriptPlace × Deed) → at_call p proc args ≡ Ok r → Says p counts r
call_follows p counts proc args r e =
    elim (stands p.head (λ plan. cond (has_batches p.mode) (and_then (calls p) (placed_call plan proc args)) (Err Site)) r e) [
      | there plan is may ↦ elim (branch Asked (has_batches p.mode) (and_then (calls p) (placed_call plan proc args)) (Err Site) (Ok r) may) [
        | on_no off such ↦ absurd cc
        | on_yes has such ↦ elim (step Call (ScriptPlace × Deed) (calls p) (placed_call plan proc args) r such) [
          | stepped call fits last ↦
              let next : ScriptPlace = record p { rows_ended = true; open_calls = p.open_calls + 1 } in
              elim (branch Asked (nat_lt p.open_calls MOST_REQUESTS) (Ok (next, deed.Call call)) (Err Batch) (Ok r) last) [
                | on_no full such ↦ absurd cc
                | on_yes room such ↦ is_this p counts (next, deed.Call call) r such (record {
                  mode_stays = refl;
                  head_stays = stays p.head;
                  allows = record {
                    fits = ready_with p.head plan (λ q. takes q call ≡ true) is (call_in plan args (proc_named plan proc) call fits);
                    calls = refl;
                    room = ltb-true p.open_calls MOST_REQUESTS room;
                    rows = refl;
                  };
                })
              ]
        ]
      ]
    ]

settings_follow : (p : ScriptPlace) (counts : Counts) (name : List ℕ) (percent : ℤ) (r : ScriptPlace × Deed) → at_settings p name percent ≡ Ok r
    → Says p counts r
settings_follow p counts name percent r e =
    elim (stands p.head (λ plan. cond (has_batches p.mode && p.open_calls == 0) (and_then (sets p) (placed_settings name percent)) (Err Site)) r e) [
      | there plan is may ↦ elim (branch Asked (has_batches p.mode && p.open_calls == 0) (and_then (sets p) (placed_settings name percent)) (Err Site)
          (Ok r) may) [
            | on_no off such ↦ absurd cc
            | on_yes has such ↦ elim (step (ℕ × ℕ) (ScriptPlace × Deed) (sets p) (placed_settings name percent) r such) [
              | stepped pair fits last ↦
                  is_this p counts (record p { rows_ended = true }, deed.Set (rule_of pair.0) pair.1) r last (record {
                    mode_stays = refl;
                    head_stays = stays p.head;
                    allows = record { within = settings_in (rule_named name) percent pair fits; calls = refl; rows = refl };
                  })
            ]
          ]
    ]

not_below : (a b : ℕ) → nat_lt a b ≡ false → b ≤ a
not_below a b e = ltb-false a b e

batch_room : (a b : Bool) → (not a && b) ≡ false → a ≡ false → b ≡ false
batch_room true b e f = absurd cc
batch_room false b e f = e

neither : (a b : Bool) → (a || b) ≡ false → (a ≡ false) × (b ≡ false)
neither true b e = absurd cc
neither false b e = (refl, e)

runs_follow : (p : ScriptPlace) (counts : Counts) (n : ℕ) (plan : Plan) (r : ScriptPlace × Deed) → p.head ≡ head.Ready plan → counts.batches < n
    → runs p counts n ≡ Ok r
    → Says p counts r
runs_follow p counts n plan r is above e =
    elim (branch Asked (not (is_check p.mode) && nat_lt MOST_REQUESTS (counts.waiting + p.open_calls)) (Err Batch)
    (cond (nat_lt GREATEST_NUMBER n || nat_lt GREATEST_NUMBER (counts.requests + p.open_calls)) (Err Numbers) (Ok (closed p, deed.Run))) (Ok r) e) [
      | on_yes full such ↦ absurd cc
      | on_no room such ↦
          elim (branch Asked (nat_lt GREATEST_NUMBER n || nat_lt GREATEST_NUMBER (counts.requests + p.open_calls)) (Err Numbers) (Ok (closed p, deed.Run))
          (Ok r) such) [
            | on_yes past last ↦ absurd cc
            | on_no within last ↦
                let two = neither (nat_lt GREATEST_NUMBER n) (nat_lt GREATEST_NUMBER (counts.requests + p.open_calls)) within in
                let low : n ≤ GREATEST_NUMBER = not_below GREATEST_NUMBER n two.0 in
                is_this p counts (closed p, deed.Run) r last (record {
                  mode_stays = refl;
                  head_stays = stays p.head;
                  allows = record {
                    ready = ready_with p.head plan (λ q. Unit {0}) is tt;
                    calls = refl;
                    rows = refl;
                    room = λ other. not_below MOST_REQUESTS (counts.waiting + p.open_calls)
                        (batch_room (is_check p.mode) (nat_lt MOST_REQUESTS (counts.waiting + p.open_calls)) room other);
                    batches = omega (arith, low, above);
                    requests = not_below GREATEST_NUMBER (counts.requests + p.open_calls) two.1;
                  };
                })
          ]
    ]

ends_follow : (p : ScriptPlace) (counts : Counts) (n : ℕ) (plan : Plan) (r : ScriptPlace × Deed) → p.head ≡ head.Ready plan → ends p counts n ≡ Ok r
    → Says p counts r
ends_follow p counts n plan r is e =
    elim (branch Asked (nat_lt (counts.batches + 1) n) (Err (Gap n (counts.batches + 1)))
    (cond (nat_le n counts.batches) (Ok (closed p, deed.Keep n)) (runs p counts n)) (Ok r) e) [
      | on_yes gap such ↦ absurd cc
      | on_no next such ↦ elim (branch Asked (nat_le n counts.batches) (Ok (closed p, deed.Keep n)) (runs p counts n) (Ok r) such) [
        | on_yes was last ↦ is_this p counts (closed p, deed.Keep n) r last (record {
          mode_stays = refl;
          head_stays = stays p.head;
          allows = record { calls = refl; rows = refl };
        })
        | on_no new last ↦ runs_follow p counts n plan r is (leb-false n counts.batches new) last
      ]
    ]

end_follows : (p : ScriptPlace) (counts : Counts) (n : ℕ) (r : ScriptPlace × Deed) → at_end p counts n ≡ Ok r → Says p counts r
end_follows p counts n r e =
    elim (stands p.head (λ plan. cond (has_batches p.mode) (ends p counts n) (Err Site)) r e) [
      | there plan is may ↦ elim (branch Asked (has_batches p.mode) (ends p counts n) (Err Site) (Ok r) may) [
        | on_no off such ↦ absurd cc
        | on_yes has such ↦ ends_follow p counts n plan r is such
      ]
    ]

report_follows : (p : ScriptPlace) (counts : Counts) (r : ScriptPlace × Deed) → at_report p ≡ Ok r → Says p counts r
report_follows p counts r e =
    elim (branch Asked (is_check p.mode && p.open_calls == 0) (Ok (record p { reports = true }, deed.Nothing)) (Err Site) (Ok r) e) [
      | on_no off such ↦ absurd cc
      | on_yes may such ↦ is_this p counts (record p { reports = true }, deed.Nothing) r such
          (record { mode_stays = refl; head_stays = stays p.head; allows = record { calls = refl; rows = λ e. e } })
    ]

item_follows : (p : ScriptPlace) (counts : Counts) (i : Item) (r : ScriptPlace × Deed) → at_item p counts i ≡ Ok r → Says p counts r
item_follows p counts item.Skip r e = is_this p counts (p, deed.Nothing) r e (at_rest p counts)
item_follows p counts (item.Catalog name) r e = catalog_follows p counts name r e
item_follows p counts (item.Piece piece) r e = absurd cc
item_follows p counts (item.Row table parts row) r e = row_follows p counts table parts row r e
item_follows p counts (item.Tx proc args) r e = call_follows p counts proc args r e
item_follows p counts (item.End n) r e = end_follows p counts n r e
item_follows p counts item.Report r e = report_follows p counts r e
item_follows p counts (item.Settings name percent) r e = settings_follow p counts name percent r e

-- ---- behind a catalogue's text: the place without its head, and then with the catalogue

-- what follows on the place with another head follows on it, where its own head was no catalogue
allows_from : (p : ScriptPlace) (h : ScriptCatalog) (counts : Counts) (after : ScriptPlace) (d : Deed) → Allows (record p { head = h }) counts after d
    → Allows p counts after d
allows_from p h counts after deed.Nothing a = record { calls = a.calls; rows = a.rows }
allows_from p h counts after deed.Tell a = record { calls = a.calls; rows = a.rows }
allows_from p h counts after (deed.Put key row) a = record { fits = a.fits; calls = a.calls; rows = a.rows }
allows_from p h counts after (deed.Call call) a = record { fits = a.fits; calls = a.calls; room = a.room; rows = a.rows }
allows_from p h counts after (deed.Set rule percent) a = record { within = a.within; calls = a.calls; rows = a.rows }
allows_from p h counts after (deed.Keep number) a = a
allows_from p h counts after deed.Run a = record { ready = a.ready; calls = a.calls; rows = a.rows; room = a.room; batches = a.batches; requests = a.requests }

from_head : (p : ScriptPlace) (h : ScriptCatalog) (counts : Counts) (r : ScriptPlace × Deed) → HeadStays p.head r.0.head
    → Says (record p { head = h }) counts r → Says p counts r
from_head p h counts r first s = record { mode_stays = s.mode_stays; head_stays = first; allows = allows_from p h counts r.0 r.1 s.allows }

was_text : (h next : ScriptCatalog) (text : List ℕ) → h ≡ head.Text text → HeadStays h next
was_text head.Unnamed next text e = tt
was_text (head.Text other) next text e = tt
was_text (head.Ready plan) next text e = absurd cc

-- a skipped line leaves the text as it is
abbrev skipped_as : ScriptPlace → List ℕ → Asked
skipped_as p text = Ok (record (without_head p) { head = head.Text text }, deed.Nothing)

-- `p` is the place with its head, a text
module _ (p : ScriptPlace) (counts : Counts) (text : List ℕ) (is_text : p.head ≡ head.Text text) where
  of_text : (h : ScriptCatalog) (r : ScriptPlace × Deed) → Says (record p { head = h }) counts r → Says p counts r
  of_text h r s = from_head p h counts r (was_text p.head r.0.head text is_text) s

  behind_follows : (i : Item) (r : ScriptPlace × Deed) → behind_text (without_head p) counts text i ≡ Ok r → Says p counts r
  behind_follows i r e = elim (step ScriptPlace (ScriptPlace × Deed) (λ ready. at_item ready counts i) (read_text (without_head p) text) r e) [
    | stepped place read last ↦ elim (step Plan ScriptPlace (λ plan. Ok (record (without_head p) { head = head.Ready plan })) (catalog_of text) place read) [
      | stepped plan said is ↦ of_text (head.Ready plan) r (item_follows (record p { head = head.Ready plan }) counts i r
          (subst (λ (q : ScriptPlace). at_item q counts i ≡ Ok r) (sym (ok_is (record p { head = head.Ready plan }) place is)) last))
    ]
  ]

  piece_follows : (piece : List ℕ) (r : ScriptPlace × Deed) → at_piece (without_head p) text piece ≡ Ok r → Says p counts r
  piece_follows piece r e =
      elim (branch Asked (nat_lt MOST_CATALOG (length text + length piece)) (Err (Catalog Long))
      (Ok (record (without_head p) { head = head.Text (text ++ piece) }, deed.Nothing)) (Ok r) e) [
        | on_yes past such ↦ absurd cc
        | on_no within such ↦ is_this p counts (record p { head = head.Text (text ++ piece) }, deed.Nothing) r such
            (comes p counts (head.Text (text ++ piece)) (was_text p.head (head.Text (text ++ piece)) text is_text))
      ]

  skip_follows : (r : ScriptPlace × Deed) → skipped_as p text ≡ Ok r → Says p counts r
  skip_follows r e = is_this p counts (record p { head = head.Text text }, deed.Nothing) r e
      (comes p counts (head.Text text) (was_text p.head (head.Text text) text is_text))

  item_in_follows : (i : Item) (r : ScriptPlace × Deed) → item_in_text (without_head p) counts text i ≡ Ok r → Says p counts r
  item_in_follows item.Skip r e = skip_follows r e
  item_in_follows (item.Piece piece) r e = piece_follows piece r e
  item_in_follows (item.Catalog name) r e = behind_follows (item.Catalog name) r e
  item_in_follows (item.Row table parts row) r e = behind_follows (item.Row table parts row) r e
  item_in_follows (item.Tx proc args) r e = behind_follows (item.Tx proc args) r e
  item_in_follows (item.End n) r e = behind_follows (item.End n) r e
  item_in_follows item.Report r e = behind_follows item.Report r e
  item_in_follows (item.Settings name percent) r e = behind_follows (item.Settings name percent) r e

  refused_follows : (why : RefusalKind) (r : ScriptPlace × Deed) → refused_in_text (without_head p) text why ≡ Ok r → Says p counts r
  refused_follows why r e = elim (branch Asked (is_byte why) (Err why) (and_then (λ ready. Err why) (read_text (without_head p) text)) (Ok r) e) [
    | on_yes byte such ↦ absurd cc
    | on_no other such ↦ elim (step ScriptPlace (ScriptPlace × Deed) (λ ready. Err why) (read_text (without_head p) text) r such) [
      | stepped place read last ↦
          absurd cc
    ]
  ]

  in_text_follows : (line : Result Item RefusalKind) (r : ScriptPlace × Deed) → in_text (without_head p) counts text line ≡ Ok r → Says p counts r
  in_text_follows (Ok i) r e = item_in_follows i r e
  in_text_follows (Err why) r e = refused_follows why r e

line_follows : (p : ScriptPlace) (counts : Counts) (h : ScriptCatalog) (line : Result Item RefusalKind) (r : ScriptPlace × Deed) → p.head ≡ h
    → by_head p counts h line ≡ Ok r
    → Says p counts r
line_follows p counts head.Unnamed line r is e = elim (step Item (ScriptPlace × Deed) (at_item p counts) line r e) [
  | stepped i said last ↦
      item_follows p counts i r last
]
line_follows p counts (head.Ready plan) line r is e = elim (step Item (ScriptPlace × Deed) (at_item p counts) line r e) [
  | stepped i said last ↦
      item_follows p counts i r last
]
line_follows p counts (head.Text text) line r is e = in_text_follows p counts text is line r e

-- one line more changes nothing of what is allowed
from_next : (p : ScriptPlace) (counts : Counts) (after : ScriptPlace) (d : Deed) → Allows (next_line p) counts after d → Allows p counts after d
from_next p counts after deed.Nothing a = record { calls = a.calls; rows = a.rows }
from_next p counts after deed.Tell a = record { calls = a.calls; rows = a.rows }
from_next p counts after (deed.Put key row) a = record { fits = a.fits; calls = a.calls; rows = a.rows }
from_next p counts after (deed.Call call) a = record { fits = a.fits; calls = a.calls; room = a.room; rows = a.rows }
from_next p counts after (deed.Set rule percent) a = record { within = a.within; calls = a.calls; rows = a.rows }
from_next p counts after (deed.Keep number) a = a
from_next p counts after deed.Run a = record { ready = a.ready; calls = a.calls; rows = a.rows; room = a.room; batches = a.batches; requests = a.requests }

next_follows : (p : ScriptPlace) (counts : Counts) (r : ScriptPlace × Deed) → Says (next_line p) counts r → Says p counts r
next_follows p counts r s = record { mode_stays = s.mode_stays; head_stays = s.head_stays; allows = from_next p counts r.0 r.1 s.allows }

pub follows : (p : ScriptPlace) (counts : Counts) (line : List ℕ) (after : ScriptPlace) (asks : Deed) → asked p counts line ≡ Ok (after, asks)
    → Follows p counts after asks
follows p counts line after asks e =
    let q : ScriptPlace = next_line p in
    let r : ScriptPlace × Deed = (after, asks) in
    next_follows p counts r (elim (branch Asked q.reports (Ok (q, deed.Tell)) (by_head q counts q.head (said line)) (Ok r) e) [
      | on_yes told such ↦ is_this q counts (q, deed.Tell) r such
          (record { mode_stays = refl; head_stays = stays q.head; allows = record { calls = refl; rows = λ e. e } })
      | on_no script such ↦ line_follows q counts q.head (said line) r refl such
    ])

-- ---- the end of the input

shut_stays : (p q : ScriptPlace) → shut p ≡ Ok q → HeadStays p.head q.head
shut_stays p q e = elim (branch (Result ScriptPlace RefusalKind) (p.open_calls == 0) (Ok p) (Err Unfinished) (Ok q) e) [
  | on_yes none such ↦ subst (λ (x : ScriptPlace). HeadStays p.head x.head) (ok_is p q such) (stays p.head)
  | on_no some such ↦ absurd cc
]

closed_stays : (p q : ScriptPlace) (h : ScriptCatalog) → p.head ≡ h → closed_by p h ≡ Ok q → HeadStays p.head q.head
closed_stays p q head.Unnamed is e = shut_stays p q e
closed_stays p q (head.Ready plan) is e = shut_stays p q e
closed_stays p q (head.Text text) is e = was_text p.head q.head text is

pub closes : (p q : ScriptPlace) → closing p ≡ Ok q → HeadStays p.head q.head
closes p q e = closed_stays (next_line p) q p.head refl e
