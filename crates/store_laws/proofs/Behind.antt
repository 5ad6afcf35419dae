-- The first lines of a script behind a head: they are skipped, up to one of batches, behind which none of a head may stand.
use Rattle.std.proofs.Common.{◌≡◌, ◌⊎◌, inl, inr, sym, ap, subst, refl, ℕ, Bool, true, false, List}
use Rattle.std.specs.Prelude.{if◌then◌else◌, Result, Ok, Err}
use Rattle.cat_text.specs.Texts.{catalog_of}
use Rattle.proc_lang.specs.Catalogs.{Plan}
use Rattle.script_places.specs.Places.{Asked, asked, at_item, behind_text, by_head, in_text, is_byte, next_line, refused_in_text, start_with, without_head}
use Rattle.script_places.specs.declared.deeds.Deed.{Deed}
use Rattle.script_places.specs.declared.deeds.Deed.TheVariants as deed
use Rattle.script_places.specs.declared.heads.ScriptCatalog.{ScriptCatalog}
use Rattle.script_places.specs.declared.heads.ScriptCatalog.TheVariants as head
use Rattle.script_places.specs.declared.places.Counts.{Counts}
use Rattle.script_places.specs.declared.places.Mode.TheVariants as mode
use Rattle.script_places.specs.declared.places.ScriptPlace.{ScriptPlace}
use Rattle.script_text.specs.Fits.{and_then}
use Rattle.script_text.specs.Forms.{said}
use Rattle.script_text.specs.Lines.{line_after}
use Rattle.script_text.specs.declared.items.Item.{Item}
use Rattle.script_text.specs.declared.items.Item.TheVariants as item
use Rattle.script_text.specs.declared.refusals.RefusalKind.{RefusalKind}
use Rattle.script_text.specs.declared.refusals.RefusalKind.TheVariants as kind
use Rattle.store_laws.proofs.Scripts.{IsAskedTo, Runs, is_asked, never, opening_item}
use Rattle.store_laws.specs.Texts.{opens_by}

-- a place of `once` behind a head, with no open call, and one of `run` before its first batch
abbrev pub behind_head : ScriptCatalog → ScriptPlace → ScriptPlace
behind_head h p = record p { mode = mode.Once; head = h; open_calls = 0; reports = false }

abbrev pub before_batches : Plan → ℕ → ScriptPlace
before_batches plan lines = record (start_with mode.Run plan) { lines = lines }

-- what a head comes to at its end; one that names none has the catalogue `none`
abbrev pub Gives : Plan → ScriptCatalog → Plan → Type 0
Gives none head.Unnamed plan = plan ≡ none
Gives none (head.Text text) plan = catalog_of text ≡ Ok plan
Gives none (head.Ready given) plan = given ≡ plan

abbrev pub IsNamed : ScriptCatalog → Type 0
IsNamed head.Unnamed = ⊥
IsNamed (head.Text text) = Unit {0}
IsNamed (head.Ready given) = Unit {0}

-- a line that is skipped, or the first of batches
pub begins : (rest : Bool) (l : Result Item RefusalKind) → opens_by rest l ≡ true → ((l ≡ Ok item.Skip) × (rest ≡ true)) ⊎ (opens_by false l ≡ true)
begins rest (Ok item.Skip) e = inl (refl, e)
begins rest (Ok (item.Catalog name)) e = inr e
begins rest (Ok (item.Piece piece)) e = inr e
begins rest (Ok (item.Row table parts row)) e = inr e
begins rest (Ok (item.Tx proc args)) e = inr e
begins rest (Ok (item.End n)) e = inr e
begins rest (Ok item.Report) e = inr e
begins rest (Ok (item.Settings name percent)) e = inr e
begins rest (Err why) e = inr e

-- a line that is skipped, or one of a head
pub begins_not : (rest : Bool) (l : Result Item RefusalKind) → opens_by rest l ≡ false → ((l ≡ Ok item.Skip) × (rest ≡ false)) ⊎ (opens_by true l ≡ false)
begins_not rest (Ok item.Skip) e = inl (refl, e)
begins_not rest (Ok (item.Catalog name)) e = inr e
begins_not rest (Ok (item.Piece piece)) e = inr e
begins_not rest (Ok (item.Row table parts row)) e = inr e
begins_not rest (Ok (item.Tx proc args)) e = inr e
begins_not rest (Ok (item.End n)) e = inr e
begins_not rest (Ok item.Report) e = inr e
begins_not rest (Ok (item.Settings name percent)) e = inr e
begins_not rest (Err why) e = inr e

module _ (plan : Plan) (lines : ℕ) (c : Counts) where
  abbrev After : ℕ
  After = line_after lines

  -- ---- a skipped line changes the count of lines alone

  skip_said : (h : ScriptCatalog) (p : ScriptPlace) (l : Result Item RefusalKind) → l ≡ Ok item.Skip
      → by_head (behind_head h p) c h l ≡ Ok (behind_head h p, deed.Nothing)
  skip_said head.Unnamed p l is = ap (λ (x : Result Item RefusalKind). and_then (at_item (behind_head head.Unnamed p) c) x) is
  skip_said (head.Text text) p l is = ap (λ (x : Result Item RefusalKind). in_text (without_head (behind_head (head.Text text) p)) c text x) is
  skip_said (head.Ready given) p l is = ap (λ (x : Result Item RefusalKind). and_then (at_item (behind_head (head.Ready given) p) c) x) is

  pub once_skip : (h : ScriptCatalog) (p : ScriptPlace) (line : List ℕ) → said line ≡ Ok item.Skip
      → asked (behind_head h p) c line ≡ Ok (behind_head h (next_line p), deed.Nothing)
  once_skip h p line is = skip_said h (next_line p) (said line) is

  pub run_skip : (line : List ℕ) → said line ≡ Ok item.Skip → asked (before_batches plan lines) c line ≡ Ok (before_batches plan After, deed.Nothing)
  run_skip line is = ap (λ (x : Result Item RefusalKind). and_then (at_item (before_batches plan After) c) x) is

  -- ---- a line of a head may not stand in a script over a store

  head_refused : (l : Result Item RefusalKind) → opens_by true l ≡ false → and_then (at_item (before_batches plan After) c) l ≡ Err kind.Site
  head_refused (Ok item.Skip) e = never (sym e)
  head_refused (Ok (item.Catalog name)) e = refl
  head_refused (Ok (item.Piece piece)) e = refl
  head_refused (Ok (item.Row table parts row)) e = refl
  head_refused (Ok (item.Tx proc args)) e = never (sym e)
  head_refused (Ok (item.End n)) e = never (sym e)
  head_refused (Ok item.Report) e = never (sym e)
  head_refused (Ok (item.Settings name percent)) e = never (sym e)
  head_refused (Err why) e = never (sym e)

  pub run_refuses : (line : List ℕ) → opens_by true (said line) ≡ false → asked (before_batches plan lines) c line ≡ Err kind.Site
  run_refuses line e = head_refused (said line) e

  -- ---- the first line of batches

  abbrev Begins : Asked → Item → Type 0
  Begins given i = Runs plan After given (at_item (before_batches plan After) c i)

  first_ready : (given : Plan) → given ≡ plan → (p : ScriptPlace) (i : Item) → opens_by false (Ok i) ≡ true
      → Begins (at_item (behind_head (head.Ready given) p) c i) i
  first_ready given is p i e =
      subst (λ (g : Plan). Begins (at_item (behind_head (head.Ready g) p) c i) i) (sym is) (opening_item plan After c (behind_head (head.Ready plan) p) i e)

  -- the text of a catalogue is read before it
  abbrev ReadThen : ScriptPlace → (ScriptPlace → Asked) → Result Plan RefusalKind → Asked
  ReadThen p ask read = and_then ask (and_then (λ given. Ok (record p { head = head.Ready given })) read)

  first_read : (p : ScriptPlace) (text : List ℕ) → catalog_of text ≡ Ok plan → (i : Item) → opens_by false (Ok i) ≡ true
      → Begins (behind_text (without_head (behind_head (head.Text text) p)) c text i) i
  first_read p text is i e =
      subst (λ (r : Result Plan RefusalKind). Begins (ReadThen (without_head (behind_head (head.Text text) p)) (λ at. at_item at c i) r) i) (sym is)
      (first_ready plan refl p i e)

  first_text : (p : ScriptPlace) (text : List ℕ) → catalog_of text ≡ Ok plan → (i : Item) → opens_by false (Ok i) ≡ true
      → Begins (in_text (without_head (behind_head (head.Text text) p)) c text (Ok i)) i
  first_text p text is item.Skip e = never e
  first_text p text is (item.Catalog name) e = never e
  first_text p text is (item.Piece piece) e = never e
  first_text p text is (item.Row table parts row) e = never e
  first_text p text is (item.Tx proc args) e = first_read p text is (item.Tx proc args) e
  first_text p text is (item.End n) e = first_read p text is (item.End n) e
  first_text p text is item.Report e = first_read p text is item.Report e
  first_text p text is (item.Settings name percent) e = first_read p text is (item.Settings name percent) e

  -- a line of no form, behind the text of a catalogue
  refused_by : (byte : Bool) (p : ScriptPlace) (read : Result Plan RefusalKind) (why : RefusalKind) → read ≡ Ok plan
      → Runs plan After (if byte then Err why else ReadThen p (λ at. Err why) read) (Err why)
  refused_by true p read why is = refl
  refused_by false p read why is = subst (λ (r : Result Plan RefusalKind). Runs plan After (ReadThen p (λ at. Err why) r) (Err why)) (sym is) refl

  first_wrong : (p : ScriptPlace) (text : List ℕ) (why : RefusalKind) → catalog_of text ≡ Ok plan → Runs plan After (refused_in_text p text why) (Err why)
  first_wrong p text why is = refused_by (is_byte why) p (catalog_of text) why is

  -- behind a head that names a catalogue
  first_said : (none : Plan) (h : ScriptCatalog) (p : ScriptPlace) → IsNamed h → Gives none h plan → (l : Result Item RefusalKind) → opens_by false l ≡ true
      → Runs plan After (by_head (behind_head h p) c h l) (and_then (at_item (before_batches plan After) c) l)
  first_said none head.Unnamed p named gives l e = absurd named
  first_said none (head.Text text) p named gives (Ok i) e = first_text p text gives i e
  first_said none (head.Ready given) p named gives (Ok i) e = first_ready given gives p i e
  first_said none (head.Text text) p named gives (Err why) e = first_wrong (without_head (behind_head (head.Text text) p)) text why gives
  first_said none (head.Ready given) p named gives (Err why) e = refl

  -- no line of batches may stand where there is no catalogue
  none_asked : (p : ScriptPlace) (l : Result Item RefusalKind) (r : ScriptPlace × Deed) → opens_by false l ≡ true
      → by_head (behind_head head.Unnamed p) c head.Unnamed l ≡ Ok r → ⊥
  none_asked p (Ok item.Skip) r e is = never e
  none_asked p (Ok (item.Catalog name)) r e is = never e
  none_asked p (Ok (item.Piece piece)) r e is = never e
  none_asked p (Ok (item.Row table parts row)) r e is = never e
  none_asked p (Ok (item.Tx proc args)) r e is = absurd cc
  none_asked p (Ok (item.End n)) r e is = absurd cc
  none_asked p (Ok item.Report) r e is = absurd cc
  none_asked p (Ok (item.Settings name percent)) r e is = absurd cc
  none_asked p (Err why) r e is = absurd cc

  pub first_asked : (none : Plan) (h : ScriptCatalog) (p after : ScriptPlace) (line : List ℕ) (asks : Deed) → Gives none h plan
      → opens_by false (said line) ≡ true
      → asked (behind_head h p) c line ≡ Ok (after, asks) → IsAskedTo plan lines (before_batches plan lines) c line after asks
  first_asked none head.Unnamed p after line asks gives e is = absurd (none_asked (next_line p) (said line) (after, asks) e is)
  first_asked none (head.Text text) p after line asks gives e is =
      let h = head.Text text in
      is_asked plan lines (before_batches plan lines) after c line asks (asked (behind_head h p) c line) is
      (first_said none h (next_line p) tt gives (said line) e)
  first_asked none (head.Ready given) p after line asks gives e is =
      let h = head.Ready given in
      is_asked plan lines (before_batches plan lines) after c line asks (asked (behind_head h p) c line) is
      (first_said none h (next_line p) tt gives (said line) e)

  pub first_refused : (none : Plan) (h : ScriptCatalog) (p : ScriptPlace) (line : List ℕ) (why : RefusalKind) → IsNamed h → Gives none h plan
      → opens_by false (said line) ≡ true
      → asked (behind_head h p) c line ≡ Err why → asked (before_batches plan lines) c line ≡ Err why
  first_refused none h p line why named gives e is =
      subst (λ (a : Asked). Runs plan After a (asked (before_batches plan lines) c line)) is (first_said none h (next_line p) named gives (said line) e)
