-- What a line asks for where more batches were run: the same, but that a batch that would be run is kept.
use Rattle.std.proofs.Common.{◌≡◌, ◌∙◌, sym, ap, subst, refl, ℕ, ◌+◌, ◌<◌, ◌≤◌, nat_le, nat_lt, ◌==◌, Bool, true, false, not, ◌&&◌, ◌||◌, ℤ, List, [], ◌++◌, length, arith}
use Rattle.std.specs.Prelude.{if◌then◌else◌, Option, Some, None, Result, Ok, Err, codes, bytes_eq}
use Rattle.aria_base.specs.Orders.{Cells}
use Rattle.aria_base.specs.declared.calls.Arg.{Arg}
use Rattle.aria_base.specs.declared.keys.Part.{Part}
use Rattle.aria_base.specs.declared.calls.Call.{Call}
use Rattle.aria_base.specs.declared.limits.TheConstants.{GREATEST_NUMBER, MOST_REQUESTS}
use Rattle.cat_builtin.specs.Builtins.{builtin_named}
use Rattle.proc_lang.specs.Catalogs.{Plan}
use Rattle.script_places.specs.Places.{Asked, asked, asked_at, at_call, at_catalog, at_end, at_item, at_piece, at_report, at_row, at_settings, behind_text, by_head, calls, closed, ends, found, goes_on, has_batches, has_catalog, in_text, is_audit, is_byte, is_check, is_unnamed, next_line, puts, read_text, refused_in_text, runs, sets, under, within_text, without_head}
use Rattle.script_places.specs.declared.deeds.Deed.{Deed}
use Rattle.script_places.specs.declared.deeds.Deed.TheVariants as deed
use Rattle.script_places.specs.declared.heads.ScriptCatalog.{ScriptCatalog}
use Rattle.script_places.specs.declared.heads.ScriptCatalog.TheVariants as head
use Rattle.script_places.specs.declared.limits.TheConstants.{MOST_CATALOG}
use Rattle.script_places.specs.declared.places.Counts.{Counts}
use Rattle.script_places.specs.declared.places.ScriptPlace.{ScriptPlace}
use Rattle.script_text.specs.Fits.{and_then, placed_call, placed_row, placed_settings}
use Rattle.script_text.specs.Forms.{said}
use Rattle.script_text.specs.declared.items.Item.{Item}
use Rattle.script_text.specs.declared.items.Item.TheVariants as item
use Rattle.script_text.specs.declared.refusals.CatFault.TheVariants as fault
use Rattle.script_text.specs.declared.refusals.RefusalKind.{RefusalKind}
use Rattle.script_text.specs.declared.refusals.RefusalKind.TheVariants as kind
use Rattle.run_commands.specs.Standing.{runs_batch}

-- a batch that would be run behind so many is kept
abbrev pub as_kept : ℕ → Deed → Deed
as_kept batches deed.Run = deed.Keep (batches + 1)
as_kept batches deed.Nothing = deed.Nothing
as_kept batches deed.Tell = deed.Tell
as_kept batches (deed.Put key row) = deed.Put key row
as_kept batches (deed.Call call) = deed.Call call
as_kept batches (deed.Set rule percent) = deed.Set rule percent
as_kept batches (deed.Keep number) = deed.Keep number

abbrev Kept : ℕ → Asked → Asked → Type 0
Kept batches (Ok r) other = other ≡ Ok (r.0, as_kept batches r.1)
Kept batches (Err why) other = Unit {0}

abbrev NoRun : Asked → Type 0
NoRun (Ok r) = runs_batch r.1 ≡ false
NoRun (Err why) = Unit {0}

-- ---- what runs no batch

no_if : (b : Bool) (x y : Asked) → NoRun x → NoRun y → NoRun (if b then x else y)
no_if true x y h k = h
no_if false x y h k = k

no_then : {T : Type 0} (f : T → Asked) (r : Result T RefusalKind) → ((t : T) → NoRun (f t)) → NoRun (and_then f r)
no_then f (Ok t) h = h t
no_then f (Err why) h = tt

no_under : (h : ScriptCatalog) (f : Plan → Asked) → ((plan : Plan) → NoRun (f plan)) → NoRun (under h f)
no_under head.Unnamed f n = tt
no_under (head.Text text) f n = tt
no_under (head.Ready plan) f n = n plan

no_found : (p : ScriptPlace) (o : Option Plan) → NoRun (found p o)
no_found p None = tt
no_found p (Some plan) = refl

no_catalog : (p : ScriptPlace) (name : List ℕ) → NoRun (at_catalog p name)
no_catalog p name =
    no_if (not (has_catalog p.mode && is_unnamed p.head)) (Err kind.Site)
    (if is_audit p.mode && not (bytes_eq name (codes "tpcc")) then Err
    kind.Name else (if bytes_eq name (codes "text") then Ok (record p { head = head.Text [] }, deed.Nothing) else found p (builtin_named name))) tt
    (no_if (is_audit p.mode && not (bytes_eq name (codes "tpcc"))) (Err kind.Name)
    (if bytes_eq name (codes "text") then Ok (record p { head = head.Text [] }, deed.Nothing) else found p (builtin_named name)) tt
    (no_if (bytes_eq name (codes "text")) (Ok (record p { head = head.Text [] }, deed.Nothing)) (found p (builtin_named name)) refl
    (no_found p (builtin_named name))))

no_calls : (p : ScriptPlace) (call : Call) → NoRun (calls p call)
no_calls p call = no_if (nat_lt p.open_calls MOST_REQUESTS) (Ok (record p { rows_ended = true; open_calls = p.open_calls + 1 }, deed.Call call))
    (Err kind.Batch) refl tt

no_row : (p : ScriptPlace) (table : List ℕ) (parts : List Part) (row : Cells) → NoRun (at_row p table parts row)
no_row p table parts row =
    no_under p.head (λ plan. if p.rows_ended then Err kind.Site else and_then (puts p) (placed_row plan table parts row))
    (λ plan. no_if p.rows_ended (Err kind.Site) (and_then (puts p) (placed_row plan table parts row)) tt
    (no_then (puts p) (placed_row plan table parts row) (λ r. refl)))

no_call : (p : ScriptPlace) (proc : List ℕ) (args : List Arg) → NoRun (at_call p proc args)
no_call p proc args =
    no_under p.head (λ plan. if has_batches p.mode then and_then (calls p) (placed_call plan proc args) else Err kind.Site)
    (λ plan. no_if (has_batches p.mode) (and_then (calls p) (placed_call plan proc args)) (Err kind.Site)
    (no_then (calls p) (placed_call plan proc args) (λ call. no_calls p call)) tt)

no_settings : (p : ScriptPlace) (name : List ℕ) (percent : ℤ) → NoRun (at_settings p name percent)
no_settings p name percent =
    no_under p.head (λ plan. if has_batches p.mode && p.open_calls == 0 then and_then (sets p) (placed_settings name percent) else Err kind.Site)
    (λ plan. no_if (has_batches p.mode && p.open_calls == 0) (and_then (sets p) (placed_settings name percent)) (Err kind.Site)
    (no_then (sets p) (placed_settings name percent) (λ r. refl)) tt)

no_report : (p : ScriptPlace) → NoRun (at_report p)
no_report p = no_if (is_check p.mode && p.open_calls == 0) (Ok (record p { reports = true }, deed.Nothing)) (Err kind.Site) refl tt

no_piece : (p : ScriptPlace) (text piece : List ℕ) → NoRun (at_piece p text piece)
no_piece p text piece = no_if (nat_lt MOST_CATALOG (length text + length piece)) (Err (kind.Catalog fault.Long))
    (Ok (record p { head = head.Text (text ++ piece) }, deed.Nothing)) tt refl

-- ---- more batches

module _ (c d : Counts) (less : c.batches < d.batches) where
  abbrev AsKept : Asked → Asked → Type 0
  AsKept = Kept c.batches

  as_it_is : (asks : Deed) → runs_batch asks ≡ false → as_kept c.batches asks ≡ asks
  as_it_is deed.Run e = absurd cc
  as_it_is deed.Nothing e = refl
  as_it_is deed.Tell e = refl
  as_it_is (deed.Put key row) e = refl
  as_it_is (deed.Call call) e = refl
  as_it_is (deed.Set rule percent) e = refl
  as_it_is (deed.Keep number) e = refl

  same : (x : Asked) → NoRun x → AsKept x x
  same (Ok r) h = ap (λ (asks : Deed). Ok (r.0, asks)) (sym (as_it_is r.1 h))
  same (Err why) h = tt

  kept_if : (b : Bool) (x y x' y' : Asked) → AsKept x x' → AsKept y y' → AsKept (if b then x else y) (if b then x' else y')
  kept_if true x y x' y' h k = h
  kept_if false x y x' y' h k = k

  kept_then : {T : Type 0} (f g : T → Asked) (r : Result T RefusalKind) → ((t : T) → AsKept (f t) (g t)) → AsKept (and_then f r) (and_then g r)
  kept_then f g (Ok t) h = h t
  kept_then f g (Err why) h = tt

  kept_under : (h : ScriptCatalog) (f g : Plan → Asked) → ((plan : Plan) → AsKept (f plan) (g plan)) → AsKept (under h f) (under h g)
  kept_under head.Unnamed f g n = tt
  kept_under (head.Text text) f g n = tt
  kept_under (head.Ready plan) f g n = n plan

  when_both : (a b : Bool) (x y z : Asked) → a ≡ false → b ≡ true → (if a then x else (if b then y else z)) ≡ y
  when_both false true x y z e f = refl
  when_both false false x y z e f = absurd cc
  when_both true b x y z e f = absurd cc

  -- an end that is no gap behind fewer batches is kept
  end_kept : (p : ScriptPlace) (n : ℕ) → n ≤ c.batches + 1 → ends p d n ≡ Ok (closed p, deed.Keep n)
  end_kept p n h =
      when_both (nat_lt (d.batches + 1) n) (nat_le n d.batches) (Err (kind.Gap n (d.batches + 1))) (Ok (closed p, deed.Keep n)) (runs p d n)
      (grind (arith, h, less)) (grind (arith, h, less))

  run_kept : (a b : Bool) (p : ScriptPlace) (n : ℕ) → n ≡ c.batches + 1
      → AsKept (if a then Err kind.Batch else (if b then Err kind.Numbers else Ok (closed p, deed.Run))) (ends p d n)
  run_kept true b p n e = tt
  run_kept false true p n e = tt
  run_kept false false p n e = end_kept p n (omega (arith, e)) ∙ ap (λ (k : ℕ). Ok (closed p, deed.Keep k)) e

  ends_by : (a b : Bool) (p : ScriptPlace) (n : ℕ) → nat_lt (c.batches + 1) n ≡ a → nat_le n c.batches ≡ b
      → AsKept (if a then Err (kind.Gap n (c.batches + 1)) else (if b then Ok (closed p, deed.Keep n) else runs p c n)) (ends p d n)
  ends_by true b p n e f = tt
  ends_by false true p n e f = end_kept p n (grind (arith, f))
  ends_by false false p n e f =
      run_kept (not (is_check p.mode) && nat_lt MOST_REQUESTS (c.waiting + p.open_calls))
      (nat_lt GREATEST_NUMBER n || nat_lt GREATEST_NUMBER (c.requests + p.open_calls)) p n (grind (arith, e, f))

  kept_end : (p : ScriptPlace) (n : ℕ) → AsKept (at_end p c n) (at_end p d n)
  kept_end p n =
      kept_under p.head (λ plan. if has_batches p.mode then ends p c n else Err kind.Site) (λ plan. if has_batches p.mode then ends p d n else Err kind.Site)
      (λ plan. kept_if (has_batches p.mode) (ends p c n) (Err kind.Site) (ends p d n) (Err kind.Site)
      (ends_by (nat_lt (c.batches + 1) n) (nat_le n c.batches) p n refl refl) tt)

  kept_item : (p : ScriptPlace) (i : Item) → AsKept (at_item p c i) (at_item p d i)
  kept_item p item.Skip = refl
  kept_item p (item.Catalog name) = same (at_catalog p name) (no_catalog p name)
  kept_item p (item.Piece piece) = tt
  kept_item p (item.Row table parts row) = same (at_row p table parts row) (no_row p table parts row)
  kept_item p (item.Tx proc args) = same (at_call p proc args) (no_call p proc args)
  kept_item p (item.End n) = kept_end p n
  kept_item p item.Report = same (at_report p) (no_report p)
  kept_item p (item.Settings name percent) = same (at_settings p name percent) (no_settings p name percent)

  kept_within : (p : ScriptPlace) (text : List ℕ) (i : Item) → AsKept (within_text p text i) (within_text p text i)
  kept_within p text item.Skip = refl
  kept_within p text (item.Catalog name) = refl
  kept_within p text (item.Piece piece) = same (at_piece p text piece) (no_piece p text piece)
  kept_within p text (item.Row table parts row) = refl
  kept_within p text (item.Tx proc args) = refl
  kept_within p text (item.End n) = refl
  kept_within p text item.Report = refl
  kept_within p text (item.Settings name percent) = refl

  kept_behind : (p : ScriptPlace) (text : List ℕ) (i : Item) → AsKept (behind_text p c text i) (behind_text p d text i)
  kept_behind p text i = kept_then (λ ready. at_item ready c i) (λ ready. at_item ready d i) (read_text p text) (λ ready. kept_item ready i)

  no_refused : (p : ScriptPlace) (text : List ℕ) (why : RefusalKind) → NoRun (refused_in_text p text why)
  no_refused p text why = no_if (is_byte why) (Err why) (and_then (λ ready. Err why) (read_text p text)) tt
      (no_then (λ ready. Err why) (read_text p text) (λ ready. tt))

  kept_text : (p : ScriptPlace) (text : List ℕ) (line : Result Item RefusalKind) → AsKept (in_text p c text line) (in_text p d text line)
  kept_text p text (Ok i) = kept_if (goes_on i) (within_text p text i) (behind_text p c text i) (within_text p text i) (behind_text p d text i)
      (kept_within p text i) (kept_behind p text i)
  kept_text p text (Err why) = same (refused_in_text p text why) (no_refused p text why)

  kept_head : (p : ScriptPlace) (h : ScriptCatalog) (line : Result Item RefusalKind) → AsKept (by_head p c h line) (by_head p d h line)
  kept_head p (head.Text text) line = kept_text (without_head p) text line
  kept_head p head.Unnamed line = kept_then (at_item p c) (at_item p d) line (λ i. kept_item p i)
  kept_head p (head.Ready plan) line = kept_then (at_item p c) (at_item p d) line (λ i. kept_item p i)

  kept_at : (p : ScriptPlace) (line : List ℕ) → AsKept (asked_at p c line) (asked_at p d line)
  kept_at p line = kept_if p.reports (Ok (p, deed.Tell)) (by_head p c p.head (said line)) (Ok (p, deed.Tell)) (by_head p d p.head (said line)) refl
      (kept_head p p.head (said line))

  of_asked : (x other : Asked) (after : ScriptPlace) (asks : Deed) → x ≡ Ok (after, asks) → AsKept x other → other ≡ Ok (after, as_kept c.batches asks)
  of_asked x other after asks e h = subst (λ (a : Asked). AsKept a other) e h

  pub asked_later : (p : ScriptPlace) (line : List ℕ) (after : ScriptPlace) (asks : Deed) → asked p c line ≡ Ok (after, asks)
      → asked p d line ≡ Ok (after, as_kept c.batches asks)
  asked_later p line after asks e = of_asked (asked p c line) (asked p d line) after asks e (kept_at (next_line p) line)
