-- A line by what it asks for.
use Rattle.std.proofs.Common.{◌≡◌, subst, refl, ℕ, ℤ, ◌+◌, ◌≤◌, Bool, true, false, not, ◌&&◌, ◌||◌, cond, List, [], ◌++◌, length, Option, Some, None, nat_lt, nat_le}
use Rattle.std.proofs.lemmas.Bool.{leb-true}
use Rattle.std.specs.Prelude.{Result, Ok, Err, codes, bytes_eq, ◌==◌}
use Rattle.aria_base.specs.Orders.{Cells}
use Rattle.aria_base.specs.declared.calls.Arg.{Arg}
use Rattle.aria_base.specs.declared.keys.Part.{Part}
use Rattle.aria_base.specs.declared.limits.TheConstants.{GREATEST_NUMBER, MOST_REQUESTS}
use Rattle.proc_lang.specs.Catalogs.{Plan}
use Rattle.cat_builtin.specs.Builtins.{builtin_named}
use Rattle.script_text.specs.Fits.{and_then, placed_row, placed_call, placed_settings}
use Rattle.script_text.specs.Forms.{said}
use Rattle.script_text.specs.declared.items.Item.{Item}
use Rattle.script_text.specs.declared.items.Item.TheVariants as item
use Rattle.script_text.specs.declared.refusals.CatFault.TheVariants.{Long}
use Rattle.script_text.specs.declared.refusals.RefusalKind.{RefusalKind}
use Rattle.script_text.specs.declared.refusals.RefusalKind.TheVariants.{Site, Name, Batch, Gap, Numbers, Catalog}
use Rattle.script_places.specs.Places.{Asked, asked, at_call, at_catalog, at_end, at_item, at_piece, at_report, at_row, at_settings, behind_text, by_head, calls, closed, ends, found, has_batches, has_catalog, in_text, is_audit, is_byte, is_check, is_unnamed, item_in_text, next_line, puts, read_text, refused_in_text, runs, sets, under, without_head}
use Rattle.script_places.specs.declared.deeds.Deed.{Deed}
use Rattle.script_places.specs.declared.deeds.Deed.TheVariants as deed
use Rattle.script_places.specs.declared.heads.ScriptCatalog.{ScriptCatalog}
use Rattle.script_places.specs.declared.heads.ScriptCatalog.TheVariants as head
use Rattle.script_places.specs.declared.limits.TheConstants.{MOST_CATALOG}
use Rattle.script_places.specs.declared.places.Counts.{Counts}
use Rattle.script_places.specs.declared.places.ScriptPlace.{ScriptPlace}

-- ---- a batch that was run before has a number of one that was

abbrev IsBefore : ℕ → Deed → Type 0
IsBefore n (deed.Keep number) = number ≤ n
IsBefore n deed.Nothing = Unit {0}
IsBefore n (deed.Put key row) = Unit {0}
IsBefore n (deed.Call call) = Unit {0}
IsBefore n (deed.Set rule percent) = Unit {0}
IsBefore n deed.Run = Unit {0}
IsBefore n deed.Tell = Unit {0}

abbrev Keeps : ℕ → Asked → Type 0
Keeps n (Ok a) = IsBefore n a.1
Keeps n (Err kind) = Unit {0}

module _ (n : ℕ) where
  keeps_if : (b : Bool) (x y : Asked) → (b ≡ true → Keeps n x) → Keeps n y → Keeps n (cond b x y)
  keeps_if true x y h k = h refl
  keeps_if false x y h k = k

  keeps_then : {A : Type 0} (f : A → Asked) (r : Result A RefusalKind) → ((x : A) → Keeps n (f x)) → Keeps n (and_then f r)
  keeps_then f (Ok x) h = h x
  keeps_then f (Err kind) h = tt

  keeps_under : (h : ScriptCatalog) (ask : Plan → Asked) → ((plan : Plan) → Keeps n (ask plan)) → Keeps n (under h ask)
  keeps_under head.Unnamed ask k = tt
  keeps_under (head.Text text) ask k = tt
  keeps_under (head.Ready plan) ask k = k plan

  found_keeps : (p : ScriptPlace) (plan : Option Plan) → Keeps n (found p plan)
  found_keeps p None = tt
  found_keeps p (Some plan) = tt

  catalog_keeps : (p : ScriptPlace) (name : List ℕ) → Keeps n (at_catalog p name)
  catalog_keeps p name =
      keeps_if (not (has_catalog p.mode && is_unnamed p.head)) (Err Site) _ (λ e. tt)
      (keeps_if (is_audit p.mode && not (bytes_eq name (codes "tpcc"))) (Err Name) _ (λ e. tt)
      (keeps_if (bytes_eq name (codes "text")) (Ok (record p { head = head.Text [] }, deed.Nothing)) (found p (builtin_named name)) (λ e. tt)
      (found_keeps p (builtin_named name))))

  row_keeps : (p : ScriptPlace) (table : List ℕ) (parts : List Part) (row : Cells) → Keeps n (at_row p table parts row)
  row_keeps p table parts row =
      keeps_under p.head _ (λ plan. keeps_if p.rows_ended (Err Site) (and_then (puts p) (placed_row plan table parts row)) (λ e. tt)
      (keeps_then (puts p) (placed_row plan table parts row) (λ row. tt)))

  call_keeps : (p : ScriptPlace) (proc : List ℕ) (args : List Arg) → Keeps n (at_call p proc args)
  call_keeps p proc args =
      keeps_under p.head _ (λ plan. keeps_if (has_batches p.mode) (and_then (calls p) (placed_call plan proc args)) (Err Site)
      (λ e. keeps_then (calls p) (placed_call plan proc args)
      (λ call. keeps_if (nat_lt p.open_calls MOST_REQUESTS) (Ok (record p { rows_ended = true; open_calls = p.open_calls + 1 }, deed.Call call)) (Err Batch)
      (λ e. tt) tt)) tt)

  settings_keep : (p : ScriptPlace) (name : List ℕ) (percent : ℤ) → Keeps n (at_settings p name percent)
  settings_keep p name percent =
      keeps_under p.head _ (λ plan. keeps_if (has_batches p.mode && p.open_calls == 0) (and_then (sets p) (placed_settings name percent)) (Err Site)
      (λ e. keeps_then (sets p) (placed_settings name percent) (λ settings. tt)) tt)

  report_keeps : (p : ScriptPlace) → Keeps n (at_report p)
  report_keeps p = keeps_if (is_check p.mode && p.open_calls == 0) (Ok (record p { reports = true }, deed.Nothing)) (Err Site) (λ e. tt) tt

  piece_keeps : (p : ScriptPlace) (text piece : List ℕ) → Keeps n (at_piece p text piece)
  piece_keeps p text piece =
      keeps_if (nat_lt MOST_CATALOG (length text + length piece)) (Err (Catalog Long)) (Ok (record p { head = head.Text (text ++ piece) }, deed.Nothing))
      (λ e. tt) tt

module _ (counts : Counts) where
  abbrev Kept : Asked → Type 0
  Kept a = Keeps counts.batches a

  run_keeps : (p : ScriptPlace) (number : ℕ) → Kept (runs p counts number)
  run_keeps p number =
      keeps_if counts.batches (not (is_check p.mode) && nat_lt MOST_REQUESTS (counts.waiting + p.open_calls)) (Err Batch) _ (λ e. tt)
      (keeps_if counts.batches (nat_lt GREATEST_NUMBER number || nat_lt GREATEST_NUMBER (counts.requests + p.open_calls)) (Err Numbers)
      (Ok (closed p, deed.Run)) (λ e. tt) tt)

  ends_keep : (p : ScriptPlace) (number : ℕ) → Kept (ends p counts number)
  ends_keep p number =
      keeps_if counts.batches (nat_lt (counts.batches + 1) number) (Err (Gap number (counts.batches + 1))) _ (λ e. tt)
      (keeps_if counts.batches (nat_le number counts.batches) (Ok (closed p, deed.Keep number)) (runs p counts number) (λ e. leb-true number counts.batches e)
      (run_keeps p number))

  end_keeps : (p : ScriptPlace) (number : ℕ) → Kept (at_end p counts number)
  end_keeps p number =
      keeps_under counts.batches p.head _ (λ plan. keeps_if counts.batches (has_batches p.mode) (ends p counts number) (Err Site) (λ e. ends_keep p number) tt)

  item_keeps : (p : ScriptPlace) (i : Item) → Kept (at_item p counts i)
  item_keeps p item.Skip = tt
  item_keeps p (item.Catalog name) = catalog_keeps counts.batches p name
  item_keeps p (item.Piece piece) = tt
  item_keeps p (item.Row table parts row) = row_keeps counts.batches p table parts row
  item_keeps p (item.Tx proc args) = call_keeps counts.batches p proc args
  item_keeps p (item.End number) = end_keeps p number
  item_keeps p item.Report = report_keeps counts.batches p
  item_keeps p (item.Settings name percent) = settings_keep counts.batches p name percent

  behind_keeps : (p : ScriptPlace) (text : List ℕ) (i : Item) → Kept (behind_text p counts text i)
  behind_keeps p text i = keeps_then counts.batches (λ ready. at_item ready counts i) (read_text p text) (λ ready. item_keeps ready i)

  item_in_keeps : (p : ScriptPlace) (text : List ℕ) (i : Item) → Kept (item_in_text p counts text i)
  item_in_keeps p text item.Skip = tt
  item_in_keeps p text (item.Catalog name) = behind_keeps p text (item.Catalog name)
  item_in_keeps p text (item.Piece piece) = piece_keeps counts.batches p text piece
  item_in_keeps p text (item.Row table parts row) = behind_keeps p text (item.Row table parts row)
  item_in_keeps p text (item.Tx proc args) = behind_keeps p text (item.Tx proc args)
  item_in_keeps p text (item.End number) = behind_keeps p text (item.End number)
  item_in_keeps p text item.Report = behind_keeps p text item.Report
  item_in_keeps p text (item.Settings name percent) = behind_keeps p text (item.Settings name percent)

  refused_keeps : (p : ScriptPlace) (text : List ℕ) (why : RefusalKind) → Kept (refused_in_text p text why)
  refused_keeps p text why =
      keeps_if counts.batches (is_byte why) (Err why) (and_then (λ ready. Err why) (read_text p text)) (λ e. tt)
      (keeps_then counts.batches (λ ready. Err why) (read_text p text) (λ ready. tt))

  in_text_keeps : (p : ScriptPlace) (text : List ℕ) (line : Result Item RefusalKind) → Kept (in_text p counts text line)
  in_text_keeps p text (Ok i) = item_in_keeps p text i
  in_text_keeps p text (Err why) = refused_keeps p text why

  line_keeps : (p : ScriptPlace) (h : ScriptCatalog) (line : Result Item RefusalKind) → Kept (by_head p counts h line)
  line_keeps p head.Unnamed line = keeps_then counts.batches (at_item p counts) line (λ i. item_keeps p i)
  line_keeps p (head.Ready plan) line = keeps_then counts.batches (at_item p counts) line (λ i. item_keeps p i)
  line_keeps p (head.Text text) line = in_text_keeps (without_head p) text line

  asked_keeps : (p : ScriptPlace) (line : List ℕ) → Kept (asked p counts line)
  asked_keeps p line =
      let q : ScriptPlace = next_line p in
      keeps_if counts.batches q.reports (Ok (q, deed.Tell)) (by_head q counts q.head (said line)) (λ e. tt) (line_keeps q q.head (said line))

  pub kept_before : (p : ScriptPlace) (line : List ℕ) (after : ScriptPlace) (number : ℕ) → asked p counts line ≡ Ok (after, deed.Keep number)
      → number ≤ counts.batches
  kept_before p line after number e = subst (λ (a : Asked). Kept a) e (asked_keeps p line)
