-- A line of settings, and no other one, asks for settings; and no report begins.
use Rattle.std.proofs.Common.{◌≡◌, ◌∙◌, sym, ap, subst, refl, ℕ, ℤ, ◌+◌, ◌<◌, Bool, true, false, not, ◌&&◌, ◌||◌, cond, List, [], ◌++◌, length, Option, Some, None, nat_lt, nat_le}
use Rattle.std.proofs.lemmas.Bool.{and_parts, ltb-true}
use Rattle.std.specs.Prelude.{Result, Ok, Err, codes, bytes_eq, ◌==◌, if◌then◌else◌}
use Rattle.aria_base.specs.Orders.{Cells}
use Rattle.aria_base.specs.declared.calls.Arg.{Arg}
use Rattle.aria_base.specs.declared.keys.Part.{Part}
use Rattle.aria_base.specs.declared.limits.TheConstants.{GREATEST_NUMBER, MOST_REQUESTS}
use Rattle.proc_lang.specs.Catalogs.{Plan}
use Rattle.cat_builtin.specs.Builtins.{builtin_named}
use Rattle.cat_text.specs.Texts.{catalog_of}
use Rattle.script_text.specs.Fits.{and_then, placed_row, placed_call, placed_settings}
use Rattle.script_text.specs.Forms.{said}
use Rattle.script_text.specs.declared.items.Item.{Item}
use Rattle.script_text.specs.declared.items.Item.TheVariants as item
use Rattle.script_text.specs.declared.refusals.CatFault.TheVariants.{Long}
use Rattle.script_text.specs.declared.refusals.RefusalKind.{RefusalKind}
use Rattle.script_text.specs.declared.refusals.RefusalKind.TheVariants.{Site, Name, Batch, Gap, Numbers, Catalog}
use Rattle.script_places.specs.Places.{Asked, asked, at_call, at_catalog, at_end, at_item, at_piece, at_report, at_row, at_settings, behind_text, by_head, calls, closed, ends, found, has_batches, has_catalog, in_text, is_audit, is_byte, is_check, is_unnamed, item_in_text, next_line, puts, read_text, refused_in_text, runs, sets, under, without_head}
use Rattle.script_places.specs.declared.deeds.Deed.{Deed}
use Rattle.script_places.specs.declared.deeds.Deed.TheVariants as deed
use Rattle.script_places.specs.declared.heads.ScriptCatalog.{ScriptCatalog}
use Rattle.script_places.specs.declared.heads.ScriptCatalog.TheVariants as head
use Rattle.script_places.specs.declared.limits.TheConstants.{MOST_CATALOG}
use Rattle.script_places.specs.declared.places.Counts.{Counts}
use Rattle.script_places.specs.declared.places.ScriptPlace.{ScriptPlace}
use Rattle.nodes_command.specs.Asks.{asked_among, is_call, is_of_text, is_set, is_settings, within_all, without_settings}

abbrev pub IsTold : Result Item RefusalKind → Asked → Type 0
IsTold line (Ok a) = (a.0.reports ≡ false) × (is_set a.1 ≡ is_settings line)
IsTold line (Err kind) = Unit {0}

module _ (line : Result Item RefusalKind) where
  told_if : (b : Bool) (x y : Asked) → (b ≡ true → IsTold line x) → IsTold line y → IsTold line (cond b x y)
  told_if true x y h k = h refl
  told_if false x y h k = k

  told_then : {A : Type 0} (f : A → Asked) (r : Result A RefusalKind) → ((x : A) → IsTold line (f x)) → IsTold line (and_then f r)
  told_then f (Ok x) h = h x
  told_then f (Err kind) h = tt

  told_under : (h : ScriptCatalog) (ask : Plan → Asked) → ((plan : Plan) → IsTold line (ask plan)) → IsTold line (under h ask)
  told_under head.Unnamed ask k = tt
  told_under (head.Text text) ask k = tt
  told_under (head.Ready plan) ask k = k plan

  told_found : is_settings line ≡ false → (p : ScriptPlace) → p.reports ≡ false → (plan : Option Plan) → IsTold line (found p plan)
  told_found other p quiet None = tt
  told_found other p quiet (Some plan) = (quiet, sym other)

not_both : (a b : Bool) → a ≡ false → (a && b) ≡ true → true ≡ false
not_both a b off on = sym (and_parts a b on).0 ∙ off

module _ (counts : Counts) (p : ScriptPlace) (quiet : p.reports ≡ false) (once : is_check p.mode ≡ false) where
  catalog_told : (name : List ℕ) → IsTold (Ok (item.Catalog name)) (at_catalog p name)
  catalog_told name =
      let said : Result Item RefusalKind = Ok (item.Catalog name) in
      told_if said (not (has_catalog p.mode && is_unnamed p.head)) (Err Site) _ (λ e. tt)
      (told_if said (is_audit p.mode && not (bytes_eq name (codes "tpcc"))) (Err Name) _ (λ e. tt)
      (told_if said (bytes_eq name (codes "text")) (Ok (record p { head = head.Text [] }, deed.Nothing)) (found p (builtin_named name)) (λ e. (quiet, refl))
      (told_found said refl p quiet (builtin_named name))))

  row_told : (table : List ℕ) (parts : List Part) (row : Cells) → IsTold (Ok (item.Row table parts row)) (at_row p table parts row)
  row_told table parts row =
      let said : Result Item RefusalKind = Ok (item.Row table parts row) in
      told_under said p.head _ (λ plan. told_if said p.rows_ended (Err Site) (and_then (puts p) (placed_row plan table parts row)) (λ e. tt)
      (told_then said (puts p) (placed_row plan table parts row) (λ row. (quiet, refl))))

  call_told : (proc : List ℕ) (args : List Arg) → IsTold (Ok (item.Tx proc args)) (at_call p proc args)
  call_told proc args =
      let said : Result Item RefusalKind = Ok (item.Tx proc args) in
      told_under said p.head _ (λ plan. told_if said (has_batches p.mode) (and_then (calls p) (placed_call plan proc args)) (Err Site)
      (λ e. told_then said (calls p) (placed_call plan proc args)
      (λ call. told_if said (nat_lt p.open_calls MOST_REQUESTS)
      (Ok (record p { rows_ended = true; open_calls = p.open_calls + 1 }, deed.Call call)) (Err Batch)
      (λ e. (quiet, refl)) tt)) tt)

  settings_told : (name : List ℕ) (percent : ℤ) → IsTold (Ok (item.Settings name percent)) (at_settings p name percent)
  settings_told name percent =
      let said : Result Item RefusalKind = Ok (item.Settings name percent) in
      told_under said p.head _ (λ plan. told_if said (has_batches p.mode && p.open_calls == 0) (and_then (sets p) (placed_settings name percent)) (Err Site)
      (λ e. told_then said (sets p) (placed_settings name percent) (λ settings. (quiet, refl))) tt)

  report_told : IsTold (Ok item.Report) (at_report p)
  report_told = told_if (Ok item.Report) (is_check p.mode && p.open_calls == 0) (Ok (record p { reports = true }, deed.Nothing)) (Err Site)
      (λ e. absurd (let both : true ≡ false = not_both (is_check p.mode) (p.open_calls == 0) once e in cc)) tt

  run_told : (number : ℕ) → IsTold (Ok (item.End number)) (runs p counts number)
  run_told number =
      let said : Result Item RefusalKind = Ok (item.End number) in
      told_if said (not (is_check p.mode) && nat_lt MOST_REQUESTS (counts.waiting + p.open_calls)) (Err Batch) _ (λ e. tt)
      (told_if said (nat_lt GREATEST_NUMBER number || nat_lt GREATEST_NUMBER (counts.requests + p.open_calls)) (Err Numbers)
      (Ok (closed p, deed.Run)) (λ e. tt) (quiet, refl))

  ends_told : (number : ℕ) → IsTold (Ok (item.End number)) (ends p counts number)
  ends_told number =
      let said : Result Item RefusalKind = Ok (item.End number) in
      told_if said (nat_lt (counts.batches + 1) number) (Err (Gap number (counts.batches + 1))) _ (λ e. tt)
      (told_if said (nat_le number counts.batches) (Ok (closed p, deed.Keep number)) (runs p counts number) (λ e. (quiet, refl)) (run_told number))

  end_told : (number : ℕ) → IsTold (Ok (item.End number)) (at_end p counts number)
  end_told number =
      let said : Result Item RefusalKind = Ok (item.End number) in
      told_under said p.head _ (λ plan. told_if said (has_batches p.mode) (ends p counts number) (Err Site) (λ e. ends_told number) tt)

  item_told : (i : Item) → IsTold (Ok i) (at_item p counts i)
  item_told item.Skip = (quiet, refl)
  item_told (item.Catalog name) = catalog_told name
  item_told (item.Piece piece) = tt
  item_told (item.Row table parts row) = row_told table parts row
  item_told (item.Tx proc args) = call_told proc args
  item_told (item.End number) = end_told number
  item_told item.Report = report_told
  item_told (item.Settings name percent) = settings_told name percent

  items_told : (line : Result Item RefusalKind) → IsTold line (and_then (at_item p counts) line)
  items_told (Ok i) = item_told i
  items_told (Err kind) = tt

module _ (counts : Counts) (p : ScriptPlace) (quiet : p.reports ≡ false) (once : is_check p.mode ≡ false) where
  piece_told : (text piece : List ℕ) → IsTold (Ok (item.Piece piece)) (at_piece p text piece)
  piece_told text piece =
      told_if (Ok (item.Piece piece)) (nat_lt MOST_CATALOG (length text + length piece)) (Err (Catalog Long))
      (Ok (record p { head = head.Text (text ++ piece) }, deed.Nothing)) (λ e. tt) (quiet, refl)

  read_told : (i : Item) (r : Result Plan RefusalKind)
      → IsTold (Ok i) (and_then (λ ready. at_item ready counts i) (and_then (λ plan. Ok (record p { head = head.Ready plan })) r))
  read_told i (Ok plan) = item_told counts (record p { head = head.Ready plan }) quiet once i
  read_told i (Err kind) = tt

  behind_told : (text : List ℕ) (i : Item) → IsTold (Ok i) (behind_text p counts text i)
  behind_told text i = read_told i (catalog_of text)

  in_told : (text : List ℕ) (i : Item) → IsTold (Ok i) (item_in_text p counts text i)
  in_told text item.Skip = (quiet, refl)
  in_told text (item.Catalog name) = behind_told text (item.Catalog name)
  in_told text (item.Piece piece) = piece_told text piece
  in_told text (item.Row table parts row) = behind_told text (item.Row table parts row)
  in_told text (item.Tx proc args) = behind_told text (item.Tx proc args)
  in_told text (item.End number) = behind_told text (item.End number)
  in_told text item.Report = behind_told text item.Report
  in_told text (item.Settings name percent) = behind_told text (item.Settings name percent)

  refused_told : (line : Result Item RefusalKind) (text : List ℕ) (why : RefusalKind) → IsTold line (refused_in_text p text why)
  refused_told line text why =
      told_if line (is_byte why) (Err why) (and_then (λ ready. Err why) (read_text p text)) (λ e. tt)
      (told_then line (λ ready. Err why) (read_text p text) (λ ready. tt))

  text_told : (text : List ℕ) (line : Result Item RefusalKind) → IsTold line (in_text p counts text line)
  text_told text (Ok i) = in_told text i
  text_told text (Err why) = refused_told (Err why) text why

module _ (counts : Counts) (p : ScriptPlace) (quiet : p.reports ≡ false) (once : is_check p.mode ≡ false) where
  head_told : (h : ScriptCatalog) (line : Result Item RefusalKind) → IsTold line (by_head p counts h line)
  head_told head.Unnamed line = items_told counts p quiet once line
  head_told (head.Ready plan) line = items_told counts p quiet once line
  head_told (head.Text text) line = text_told counts (without_head p) quiet once text line

module _ (counts : Counts) (p : ScriptPlace) (quiet : p.reports ≡ false) (once : is_check p.mode ≡ false) (line : List ℕ) where
  pub line_told : IsTold (said line) (asked p counts line)
  line_told =
      let q : ScriptPlace = next_line p in
      told_if (said line) q.reports (Ok (q, deed.Tell)) (by_head q counts q.head (said line)) (λ e. absurd (let both : true ≡ false = sym e ∙ quiet in cc))
      (head_told counts q quiet once q.head (said line))

  -- what a line asks for on nodes, by what it asks for on one database
  pub asked_is : (called : ℕ) (a : ScriptPlace × Deed) → asked p counts line ≡ Ok a
      → asked_among called p counts line ≡ (if is_set a.1 then Err Site else within_all called (Ok a))
  asked_is called a e =
      ap (λ (x : Asked). if is_settings (said line) then without_settings x else within_all called x) e
      ∙ ap (λ (b : Bool). if b then Err Site else within_all called (Ok a)) (sym (subst (λ (x : Asked). IsTold (said line) x) e line_told).1)

  pub refused_is : (called : ℕ) (why : RefusalKind) → asked p counts line ≡ Err why
      → asked_among called p counts line ≡ (if is_settings (said line) then without_settings (Err why) else Err why)
  refused_is called why e = ap (λ (x : Asked). if is_settings (said line) then without_settings x else within_all called x) e

  -- ---- where nothing is refused

  record Allowed (called : ℕ) (q : ScriptPlace) (asks : Deed) (b : Bool) (x : Asked) : Type 0 where
    pub other : b ≡ false
    pub same : x ≡ Ok (q, asks)
    pub room : is_call asks ≡ true → called < MOST_REQUESTS

  room_by : (b c : Bool) → (b && not c) ≡ false → b ≡ true → c ≡ true
  room_by true true e on = refl
  room_by true false e on = absurd cc
  room_by false c e on = absurd cc

  allowed_call : (called : ℕ) (q : ScriptPlace) (asks : Deed) (a : ScriptPlace × Deed) (c : Bool) → c ≡ (is_call a.1 && not (nat_lt called MOST_REQUESTS))
      → cond {A = Asked} c (Err Batch) (Ok a) ≡ Ok (q, asks) → Allowed called q asks false (Ok a)
  allowed_call called q asks a true is e = absurd cc
  allowed_call called q asks a false is e =
      let same : a.1 ≡ asks = cc in
      record {
        other = refl;
        same = e;
        room = λ on. ltb-true called MOST_REQUESTS (room_by (is_call a.1) (nat_lt called MOST_REQUESTS) (sym is) (ap is_call same ∙ on));
      }

  never : (called : ℕ) (q : ScriptPlace) (asks : Deed) (why : RefusalKind) (c : Bool) → cond {A = Asked} c (Err why) (Err Site) ≡ Ok (q, asks)
      → Allowed called q asks true (Err why)
  never called q asks why true e = absurd cc
  never called q asks why false e = absurd cc

  allowed_by : (called : ℕ) (q : ScriptPlace) (asks : Deed) (b : Bool) (x : Asked)
      → (if b then without_settings x else within_all called x) ≡ Ok (q, asks) → Allowed called q asks b x
  allowed_by called q asks true (Ok a) e = absurd cc
  allowed_by called q asks true (Err why) e = never called q asks why (is_of_text why) e
  allowed_by called q asks false (Ok a) e = allowed_call called q asks a (is_call a.1 && not (nat_lt called MOST_REQUESTS)) refl e
  allowed_by called q asks false (Err why) e = absurd cc

  pub record IsAllowed (called : ℕ) (q : ScriptPlace) (asks : Deed) : Type 0 where
    pub same : asked p counts line ≡ Ok (q, asks)
    pub silent : q.reports ≡ false
    pub unset : is_set asks ≡ false
    pub room : is_call asks ≡ true → called < MOST_REQUESTS

  pub allowed : (called : ℕ) (q : ScriptPlace) (asks : Deed) → asked_among called p counts line ≡ Ok (q, asks) → IsAllowed called q asks
  allowed called q asks e =
      let a = allowed_by called q asks (is_settings (said line)) (asked p counts line) e in
      let told = subst (λ (x : Asked). IsTold (said line) x) a.same line_told in
      record { same = a.same; silent = told.0; unset = told.1 ∙ a.other; room = a.room }
