-- What a line asks for where `check` reads a script is what it asks for where `once` does: the place differs in its mode alone.
use Rattle.std.proofs.Common.{◌≡◌, ◌∙◌, sym, subst, refl, ℕ, ℤ, ◌+◌, Bool, true, false, not, cond, nat_lt, ◌==◌, List, [], ◌++◌, length, Option, Some, None, Ok, Err, IfOk}
use Rattle.std.specs.Prelude.{⊤, ◌||◌, nat_le, IfSome, Result, codes, bytes_eq}
use Rattle.std.specs.List.{AllByRecursion}
use Rattle.aria_base.specs.Orders.{Cells}
use Rattle.aria_base.specs.declared.calls.Arg.{Arg}
use Rattle.aria_base.specs.declared.calls.Call.{Call}
use Rattle.aria_base.specs.declared.keys.Part.{Part}
use Rattle.aria_base.specs.declared.limits.TheConstants.{GREATEST_NUMBER, MOST_REQUESTS}
use Rattle.cat_builtin.specs.Builtins.{builtin_named}
use Rattle.cat_text.specs.Texts.{catalog_of}
use Rattle.proc_lang.specs.Catalogs.{Plan}
use Rattle.script_places.specs.Places.{Asked, asked, asked_at, at_call, at_catalog, at_item, at_piece, at_row, at_settings, behind_text, by_head, calls, closed, ends, found, in_text, is_byte, is_ready, is_unnamed, item_in_text, next_line, puts, refused_in_text, runs, sets, under, without_head}
use Rattle.script_places.specs.declared.deeds.Deed.{Deed}
use Rattle.script_places.specs.declared.deeds.Deed.TheVariants as deed
use Rattle.script_places.specs.declared.heads.ScriptCatalog.{ScriptCatalog}
use Rattle.script_places.specs.declared.heads.ScriptCatalog.TheVariants as head
use Rattle.script_places.specs.declared.limits.TheConstants.{MOST_CATALOG}
use Rattle.script_places.specs.declared.places.Counts.{Counts}
use Rattle.script_places.specs.declared.places.Mode.{Mode}
use Rattle.script_places.specs.declared.places.Mode.TheVariants as mode
use Rattle.script_places.specs.declared.places.ScriptPlace.{ScriptPlace}
use Rattle.script_text.specs.Fits.{and_then, placed_call, placed_row, placed_settings}
use Rattle.script_text.specs.Forms.{said}
use Rattle.script_text.specs.declared.items.Item.{Item}
use Rattle.script_text.specs.declared.items.Item.TheVariants as item
use Rattle.script_text.specs.declared.refusals.CatFault.TheVariants as fault
use Rattle.script_text.specs.declared.refusals.RefusalKind.{RefusalKind}
use Rattle.script_text.specs.declared.refusals.RefusalKind.TheVariants as kind
use Rattle.output_laws.proofs.Builtins.{builtin_printed}
use Rattle.output_laws.proofs.Items.{PrintedItem, PrintedPair, placed_call_printed, placed_row_printed, said_printed}
use Rattle.output_laws.proofs.Plans.{catalog_printed}
use Rattle.output_laws.proofs.Runs.{PrintedPlan}
use Rattle.output_laws.proofs.Texts.{PrintedArg, PrintedCall, PrintedCells, PrintedKey, PrintedPart}

-- the same place, in this mode
abbrev pub as_mode : Mode → ScriptPlace → ScriptPlace
as_mode m p = record p { mode = m }

-- what `check` counts: nothing is known of what waits
abbrev pub unwaited : Counts → Counts
unwaited c = record { batches = c.batches; requests = c.requests; waiting = 0 }

abbrev pub PrintedHead : ScriptCatalog → Type 0
PrintedHead head.Unnamed = ⊤
PrintedHead (head.Text text) = ⊤
PrintedHead (head.Ready plan) = PrintedPlan plan

-- no line of a report comes
abbrev pub PrintedDeed : Deed → Type 0
PrintedDeed deed.Nothing = ⊤
PrintedDeed (deed.Put key row) = PrintedKey key × PrintedCells row
PrintedDeed (deed.Call call) = PrintedCall call
PrintedDeed (deed.Set rule percent) = ⊤
PrintedDeed (deed.Keep number) = ⊤
PrintedDeed deed.Run = ⊤
PrintedDeed deed.Tell = ⊥

-- a batch ends where there is a catalogue
abbrev pub IsReadyFor : ScriptCatalog → Deed → Type 0
IsReadyFor h deed.Nothing = ⊤
IsReadyFor h (deed.Put key row) = ⊤
IsReadyFor h (deed.Call call) = ⊤
IsReadyFor h (deed.Set rule percent) = ⊤
IsReadyFor h (deed.Keep number) = is_ready h ≡ true
IsReadyFor h deed.Run = is_ready h ≡ true
IsReadyFor h deed.Tell = ⊤

-- what is known of what a line of a script asks `once` for
pub record Asks (r : ScriptPlace × Deed) : Type 0 where
  pub mode_is : r.0.mode ≡ mode.Once
  pub quiet : r.0.reports ≡ false
  pub head : PrintedHead r.0.head
  pub deed : PrintedDeed r.1
  pub ready : IsReadyFor r.0.head r.1

-- the other asks for the same, in the mode `check`
abbrev Beside : Asked → Asked → Type 0
Beside (Ok r) other = (other ≡ Ok (as_mode mode.Check r.0, r.1)) × Asks r
Beside (Err why) other = ⊤

beside_if : (b : Bool) (x y x' y' : Asked) → Beside x x' → Beside y y' → Beside (cond b x y) (cond b x' y')
beside_if true x y x' y' h k = h
beside_if false x y x' y' h k = k

beside_then : {T : Type 0} (P : T → Type 0) (f g : T → Asked) (r : Result T RefusalKind) → IfOk r P → ((t : T) → P t → Beside (f t) (g t))
    → Beside (and_then f r) (and_then g r)
beside_then P f g (Ok t) p h = h t p
beside_then P f g (Err why) p h = tt

beside_under : (h : ScriptCatalog) (f g : Plan → Asked) → PrintedHead h → ((plan : Plan) → PrintedPlan plan → Beside (f plan) (g plan))
    → Beside (under h f) (under h g)
beside_under head.Unnamed f g p n = tt
beside_under (head.Text text) f g p n = tt
beside_under (head.Ready plan) f g p n = n plan p

any_ok : {T : Type 0} (r : Result T RefusalKind) → IfOk r (λ _. ⊤)
any_ok (Ok t) = tt
any_ok (Err why) = tt

module _ (c : Counts) where
  module _ (p : ScriptPlace) (quiet : p.reports ≡ false) (named : PrintedHead p.head) where
    abbrev Once : ScriptPlace
    Once = as_mode mode.Once p

    abbrev Check : ScriptPlace
    Check = as_mode mode.Check p

    found_beside : (o : Option Plan) → IfSome o PrintedPlan → Beside (found Once o) (found Check o)
    found_beside None h = tt
    found_beside (Some plan) h = (refl, record { mode_is = refl; quiet = quiet; head = h; deed = tt; ready = tt })

    catalog_beside : (name : List ℕ) → Beside (at_catalog Once name) (at_catalog Check name)
    catalog_beside name =
        let texts : Bool → ScriptPlace → Asked = λ b q. cond b (Ok (record q { head = head.Text [] }, deed.Nothing)) (found q (builtin_named name)) in
        beside_if (not (is_unnamed p.head)) (Err kind.Site) (texts (bytes_eq name (codes "text")) Once) (Err kind.Site)
        (texts (bytes_eq name (codes "text")) Check) tt
        (beside_if (bytes_eq name (codes "text")) (Ok (record Once { head = head.Text [] }, deed.Nothing)) (found Once (builtin_named name))
        (Ok (record Check { head = head.Text [] }, deed.Nothing)) (found Check (builtin_named name))
        (refl, record { mode_is = refl; quiet = quiet; head = tt; deed = tt; ready = tt }) (found_beside (builtin_named name) (builtin_printed name)))

    row_beside : (table : List ℕ) (parts : List Part) (row : Cells) → AllByRecursion PrintedPart parts → PrintedCells row
        → Beside (at_row Once table parts row) (at_row Check table parts row)
    row_beside table parts row h k =
        beside_under p.head (λ plan. cond p.rows_ended (Err kind.Site) (and_then (puts Once) (placed_row plan table parts row)))
        (λ plan. cond p.rows_ended (Err kind.Site) (and_then (puts Check) (placed_row plan table parts row))) named
        (λ plan is. beside_if p.rows_ended (Err kind.Site) (and_then (puts Once) (placed_row plan table parts row)) (Err kind.Site)
        (and_then (puts Check) (placed_row plan table parts row)) tt
        (beside_then PrintedPair (puts Once) (puts Check) (placed_row plan table parts row) (placed_row_printed plan table parts row h k)
        (λ r both. (refl, record { mode_is = refl; quiet = quiet; head = named; deed = both; ready = tt }))))

    calls_beside : (call : Call) → PrintedCall call → Beside (calls Once call) (calls Check call)
    calls_beside call h =
        beside_if (nat_lt p.open_calls MOST_REQUESTS) (Ok (record Once { rows_ended = true; open_calls = p.open_calls + 1 }, deed.Call call)) (Err kind.Batch)
        (Ok (record Check { rows_ended = true; open_calls = p.open_calls + 1 }, deed.Call call)) (Err kind.Batch)
        (refl, record { mode_is = refl; quiet = quiet; head = named; deed = h; ready = tt }) tt

    call_beside : (proc : List ℕ) (args : List Arg) → AllByRecursion PrintedArg args → Beside (at_call Once proc args) (at_call Check proc args)
    call_beside proc args h =
        beside_under p.head (λ plan. and_then (calls Once) (placed_call plan proc args)) (λ plan. and_then (calls Check) (placed_call plan proc args)) named
        (λ plan is. beside_then PrintedCall (calls Once) (calls Check) (placed_call plan proc args) (placed_call_printed plan proc args h) calls_beside)

    settings_beside : (name : List ℕ) (percent : ℤ) → Beside (at_settings Once name percent) (at_settings Check name percent)
    settings_beside name percent =
        beside_under p.head (λ plan. cond (p.open_calls == 0) (and_then (sets Once) (placed_settings name percent)) (Err kind.Site))
        (λ plan. cond (p.open_calls == 0) (and_then (sets Check) (placed_settings name percent)) (Err kind.Site)) named
        (λ plan is. beside_if (p.open_calls == 0) (and_then (sets Once) (placed_settings name percent)) (Err kind.Site)
        (and_then (sets Check) (placed_settings name percent)) (Err kind.Site)
        (beside_then (λ _. ⊤) (sets Once) (sets Check) (placed_settings name percent) (any_ok (placed_settings name percent))
        (λ r any. (refl, record { mode_is = refl; quiet = quiet; head = named; deed = tt; ready = tt }))) tt)

    -- `once` looks at the room of a list, where `check` leaves it to the report
    runs_beside : (n : ℕ) → is_ready p.head ≡ true → Beside (runs Once c n) (runs Check (unwaited c) n)
    runs_beside n ready = by (nat_lt MOST_REQUESTS (c.waiting + p.open_calls)) (nat_lt GREATEST_NUMBER n || nat_lt GREATEST_NUMBER (c.requests + p.open_calls))
      where
        by : (a b : Bool) → Beside (cond a (Err kind.Batch) (cond b (Err kind.Numbers) (Ok (closed Once, deed.Run))))
            (cond b (Err kind.Numbers) (Ok (closed Check, deed.Run)))
        by true b = tt
        by false true = tt
        by false false = (refl, record { mode_is = refl; quiet = quiet; head = named; deed = tt; ready = ready })

    ends_beside : (n : ℕ) → is_ready p.head ≡ true → Beside (ends Once c n) (ends Check (unwaited c) n)
    ends_beside n ready =
        beside_if (nat_lt (c.batches + 1) n) (Err (kind.Gap n (c.batches + 1))) (cond (nat_le n c.batches) (Ok (closed Once, deed.Keep n)) (runs Once c n))
        (Err (kind.Gap n (c.batches + 1))) (cond (nat_le n c.batches) (Ok (closed Check, deed.Keep n)) (runs Check (unwaited c) n)) tt
        (beside_if (nat_le n c.batches) (Ok (closed Once, deed.Keep n)) (runs Once c n) (Ok (closed Check, deed.Keep n)) (runs Check (unwaited c) n)
        (refl, record { mode_is = refl; quiet = quiet; head = named; deed = tt; ready = ready }) (runs_beside n ready))

    end_beside : (n : ℕ) (h : ScriptCatalog) → is_ready p.head ≡ is_ready h
        → Beside (under h (λ plan. ends Once c n)) (under h (λ plan. ends Check (unwaited c) n))
    end_beside n head.Unnamed is = tt
    end_beside n (head.Text text) is = tt
    end_beside n (head.Ready plan) is = ends_beside n is

    item_beside : (i : Item) → PrintedItem i → Beside (at_item Once c i) (at_item Check (unwaited c) i)
    item_beside item.Skip h = (refl, record { mode_is = refl; quiet = quiet; head = named; deed = tt; ready = tt })
    item_beside (item.Catalog name) h = catalog_beside name
    item_beside (item.Piece piece) h = tt
    item_beside (item.Row table parts row) h = row_beside table parts row h.0 h.1
    item_beside (item.Tx proc args) h = call_beside proc args h
    item_beside (item.End n) h = end_beside n p.head refl
    item_beside item.Report h = tt
    item_beside (item.Settings name percent) h = settings_beside name percent

  -- ---- where the text of a catalogue comes

  module _ (p : ScriptPlace) (quiet : p.reports ≡ false) (text : List ℕ) where
    behind_by : (r : Result Plan RefusalKind) (i : Item) → IfOk r PrintedPlan → PrintedItem i
        → Beside (and_then (λ ready. at_item ready c i) (and_then (λ plan. Ok (record (as_mode mode.Once p) { head = head.Ready plan })) r))
        (and_then (λ ready. at_item ready (unwaited c) i) (and_then (λ plan. Ok (record (as_mode mode.Check p) { head = head.Ready plan })) r))
    behind_by (Ok plan) i is h = item_beside (record p { head = head.Ready plan }) quiet is i h
    behind_by (Err why) i is h = tt

    behind_beside : (i : Item) → PrintedItem i → Beside (behind_text (as_mode mode.Once p) c text i) (behind_text (as_mode mode.Check p) (unwaited c) text i)
    behind_beside i h = behind_by (catalog_of text) i (catalog_printed text) h

    in_text_item : (i : Item) → PrintedItem i → Beside (item_in_text (as_mode mode.Once p) c text i) (item_in_text (as_mode mode.Check p) (unwaited c) text i)
    in_text_item item.Skip h = (refl, record { mode_is = refl; quiet = quiet; head = tt; deed = tt; ready = tt })
    in_text_item (item.Catalog name) h = behind_beside (item.Catalog name) h
    in_text_item (item.Piece piece) h = piece_beside_text
      where
        piece_beside_text : Beside (at_piece (as_mode mode.Once p) text piece) (at_piece (as_mode mode.Check p) text piece)
        piece_beside_text =
            beside_if (nat_lt MOST_CATALOG (length text + length piece)) (Err (kind.Catalog fault.Long))
            (Ok (record (as_mode mode.Once p) { head = head.Text (text ++ piece) }, deed.Nothing))
            (Err (kind.Catalog fault.Long)) (Ok (record (as_mode mode.Check p) { head = head.Text (text ++ piece) }, deed.Nothing)) tt
            (refl, record { mode_is = refl; quiet = quiet; head = tt; deed = tt; ready = tt })
    in_text_item (item.Row table parts row) h = behind_beside (item.Row table parts row) h
    in_text_item (item.Tx proc args) h = behind_beside (item.Tx proc args) h
    in_text_item (item.End n) h = behind_beside (item.End n) h
    in_text_item item.Report h = behind_beside item.Report h
    in_text_item (item.Settings name percent) h = behind_beside (item.Settings name percent) h

    refused_by : (b : Bool) (why : RefusalKind) (r : Result Plan RefusalKind) (other : Asked)
        → Beside (cond b (Err why) (and_then (λ ready. Err why) (and_then (λ plan. Ok (record (as_mode mode.Once p) { head = head.Ready plan })) r))) other
    refused_by true why r other = tt
    refused_by false why (Ok plan) other = tt
    refused_by false why (Err kind) other = tt

    in_text_beside : (line : Result Item RefusalKind) → IfOk line PrintedItem
        → Beside (in_text (as_mode mode.Once p) c text line) (in_text (as_mode mode.Check p) (unwaited c) text line)
    in_text_beside (Ok i) h = in_text_item i h
    in_text_beside (Err why) h = refused_by (is_byte why) why (catalog_of text) (refused_in_text (as_mode mode.Check p) text why)

  -- ---- a line

  line_beside : (p : ScriptPlace) → p.reports ≡ false → PrintedHead p.head → (h : ScriptCatalog) → p.head ≡ h → (line : Result Item RefusalKind)
      → IfOk line PrintedItem
      → Beside (by_head (as_mode mode.Once p) c h line) (by_head (as_mode mode.Check p) (unwaited c) h line)
  line_beside p quiet named head.Unnamed is line said =
      beside_then PrintedItem (at_item (as_mode mode.Once p) c) (at_item (as_mode mode.Check p) (unwaited c)) line said (λ i k. item_beside p quiet named i k)
  line_beside p quiet named (head.Ready plan) is line said =
      beside_then PrintedItem (at_item (as_mode mode.Once p) c) (at_item (as_mode mode.Check p) (unwaited c)) line said (λ i k. item_beside p quiet named i k)
  line_beside p quiet named (head.Text text) is line said = in_text_beside (without_head p) quiet text line said

  at_beside : (p : ScriptPlace) → p.reports ≡ false → PrintedHead p.head → (line : List ℕ)
      → Beside (asked_at (as_mode mode.Once p) c line) (asked_at (as_mode mode.Check p) (unwaited c) line)
  at_beside p quiet named line = by p.reports quiet
    where
      by : (b : Bool) → b ≡ false
          → Beside (cond b (Ok (as_mode mode.Once p, deed.Tell)) (by_head (as_mode mode.Once p) c p.head (said line)))
          (cond b (Ok (as_mode mode.Check p, deed.Tell)) (by_head (as_mode mode.Check p) (unwaited c) p.head (said line)))
      by true e = cc
      by false e = line_beside p quiet named p.head refl (said line) (said_printed line)

  beside_of : (a other : Asked) (r : ScriptPlace × Deed) → a ≡ Ok r → Beside a other → (other ≡ Ok (as_mode mode.Check r.0, r.1)) × Asks r
  beside_of a other r e h = subst (λ (x : Asked). Beside x other) e h

  pub asked_beside : (p : ScriptPlace) → p.mode ≡ mode.Once → p.reports ≡ false → PrintedHead p.head → (line : List ℕ) (r : ScriptPlace × Deed)
      → asked p c line ≡ Ok r
      → (asked (as_mode mode.Check p) (unwaited c) line ≡ Ok (as_mode mode.Check r.0, r.1)) × Asks r
  asked_beside p is quiet named line r e =
      let same : asked p c line ≡ asked (as_mode mode.Once p) c line = λ i. asked (record p { mode = is i }) c line in
      beside_of (asked (as_mode mode.Once p) c line) (asked (as_mode mode.Check p) (unwaited c) line) r (sym same ∙ e)
      (at_beside (next_line p) quiet named line)
