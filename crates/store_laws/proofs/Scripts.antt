-- A line of a script: where `once` takes it behind a head, `run` takes it over the store of that head, and it asks for the same; and
-- behind a head that names a catalogue both refuse the same lines.
use Rattle.std.proofs.Common.{◌≡◌, sym, subst, refl, ℕ, ◌+◌, ◌==◌, nat_le, nat_lt, Bool, true, false, ◌&&◌, ◌||◌, ℤ, List}
use Rattle.std.specs.Prelude.{if◌then◌else◌, Result, Ok, Err}
use Rattle.aria_base.specs.declared.calls.Arg.{Arg}
use Rattle.aria_base.specs.declared.limits.TheConstants.{GREATEST_NUMBER, MOST_REQUESTS}
use Rattle.proc_lang.specs.Catalogs.{Plan}
use Rattle.script_places.specs.Places.{Asked, asked, at_call, at_end, at_item, at_settings, calls, closed, next_line, runs, sets}
use Rattle.script_places.specs.declared.deeds.Deed.{Deed}
use Rattle.script_places.specs.declared.deeds.Deed.TheVariants as deed
use Rattle.script_places.specs.declared.heads.ScriptCatalog.TheVariants as head
use Rattle.script_places.specs.declared.places.Counts.{Counts}
use Rattle.script_places.specs.declared.places.Mode.TheVariants as mode
use Rattle.script_places.specs.declared.places.ScriptPlace.{ScriptPlace}
use Rattle.script_text.specs.Fits.{and_then, placed_call, placed_settings}
use Rattle.script_text.specs.Forms.{said}
use Rattle.script_text.specs.Lines.{line_after}
use Rattle.script_text.specs.declared.items.Item.{Item}
use Rattle.script_text.specs.declared.items.Item.TheVariants as item
use Rattle.script_text.specs.declared.refusals.RefusalKind.{RefusalKind}
use Rattle.script_text.specs.declared.refusals.RefusalKind.TheVariants as kind
use Rattle.store_laws.specs.Texts.{opens_by}

-- ---- places

-- a place of `once` with this catalogue, whether or not a row may stand there, and one behind which none may
abbrev pub ready : Plan → ScriptPlace → ScriptPlace
ready plan p = record p { mode = mode.Once; head = head.Ready plan; reports = false }

abbrev pub in_batches : Plan → ScriptPlace → ScriptPlace
in_batches plan p = record p { mode = mode.Once; head = head.Ready plan; rows_ended = true; reports = false }

-- the same place of `run`, behind so many lines
abbrev pub as_run : ℕ → ScriptPlace → ScriptPlace
as_run lines p = record p { mode = mode.Run; lines = lines }

-- what cannot be, apart from what else is known: a catalogue that is named is a large term
pub never : {X : Type 0} → false ≡ true → X
never e = absurd cc

-- ---- what the one takes the other takes, and what it refuses the other refuses

module _ (plan : Plan) (lines : ℕ) where
  pub record Ran (r : ScriptPlace × Deed) (other : Asked) : Type 0 where
    pub asked_run : other ≡ Ok (as_run lines r.0, r.1)
    pub place_is : r.0 ≡ in_batches plan r.0

  abbrev pub Runs : Asked → Asked → Type 0
  Runs (Ok r) other = Ran r other
  Runs (Err why) other = other ≡ Err why

  runs_if : (b : Bool) (x y x' y' : Asked) → Runs x x' → Runs y y' → Runs (if b then x else y) (if b then x' else y')
  runs_if true x y x' y' h k = h
  runs_if false x y x' y' h k = k

  runs_then : {T : Type 0} (f g : T → Asked) (r : Result T RefusalKind) → ((t : T) → Runs (f t) (g t)) → Runs (and_then f r) (and_then g r)
  runs_then f g (Ok t) h = h t
  runs_then f g (Err why) h = refl

  at_rest : (p : ScriptPlace) (asks : Deed) → Runs (Ok (in_batches plan p, asks)) (Ok (as_run lines (in_batches plan p), asks))
  at_rest p asks = record { asked_run = refl; place_is = refl }

  -- calls, ends and settings: they end the rows
  module _ (c : Counts) (p : ScriptPlace) where
    abbrev O : ScriptPlace
    O = ready plan p

    abbrev R : ScriptPlace
    R = as_run lines (in_batches plan p)

    runs_call : (proc : List ℕ) (args : List Arg) → Runs (at_call O proc args) (at_call R proc args)
    runs_call proc args =
        runs_then (calls O) (calls R) (placed_call plan proc args)
        (λ call. runs_if (nat_lt p.open_calls MOST_REQUESTS) (Ok (record O { rows_ended = true; open_calls = p.open_calls + 1 }, deed.Call call))
        (Err kind.Batch)
        (Ok (record R { rows_ended = true; open_calls = p.open_calls + 1 }, deed.Call call)) (Err kind.Batch)
        (at_rest (record p { open_calls = p.open_calls + 1 }) (deed.Call call)) refl)

    runs_now : (n : ℕ) → Runs (runs O c n) (runs R c n)
    runs_now n =
        let crowded = true && nat_lt MOST_REQUESTS (c.waiting + p.open_calls) in
        let past = nat_lt GREATEST_NUMBER n || nat_lt GREATEST_NUMBER (c.requests + p.open_calls) in
        runs_if crowded (Err kind.Batch) (if past then Err kind.Numbers else Ok (closed O, deed.Run)) (Err kind.Batch)
        (if past then Err kind.Numbers else Ok (closed R, deed.Run)) refl
        (runs_if past (Err kind.Numbers) (Ok (closed O, deed.Run)) (Err kind.Numbers) (Ok (closed R, deed.Run)) refl
        (at_rest (record p { open_calls = 0 }) deed.Run))

    runs_end : (n : ℕ) → Runs (at_end O c n) (at_end R c n)
    runs_end n =
        let gap = kind.Gap n (c.batches + 1) in
        runs_if (nat_lt (c.batches + 1) n) (Err gap) (if nat_le n c.batches then Ok (closed O, deed.Keep n) else runs O c n) (Err gap)
        (if nat_le n c.batches then Ok (closed R, deed.Keep n) else runs R c n) refl
        (runs_if (nat_le n c.batches) (Ok (closed O, deed.Keep n)) (runs O c n) (Ok (closed R, deed.Keep n)) (runs R c n)
        (at_rest (record p { open_calls = 0 }) (deed.Keep n)) (runs_now n))

    runs_settings : (name : List ℕ) (percent : ℤ) → Runs (at_settings O name percent) (at_settings R name percent)
    runs_settings name percent =
        runs_if (p.open_calls == 0) (and_then (sets O) (placed_settings name percent)) (Err kind.Site) (and_then (sets R) (placed_settings name percent))
        (Err kind.Site)
        (runs_then (sets O) (sets R) (placed_settings name percent) (λ pair. record { asked_run = refl; place_is = refl })) refl

    -- a line that no head has and that is not skipped
    pub opening_item : (i : Item) → opens_by false (Ok i) ≡ true → Runs (at_item O c i) (at_item R c i)
    opening_item item.Skip e = never e
    opening_item (item.Catalog name) e = never e
    opening_item (item.Piece piece) e = never e
    opening_item (item.Row table parts row) e = never e
    opening_item (item.Tx proc args) e = runs_call proc args
    opening_item (item.End n) e = runs_end n
    opening_item item.Report e = refl
    opening_item (item.Settings name percent) e = runs_settings name percent

  -- every line behind the first of these
  runs_item : (c : Counts) (p : ScriptPlace) (i : Item) → Runs (at_item (in_batches plan p) c i) (at_item (as_run lines (in_batches plan p)) c i)
  runs_item c p item.Skip = at_rest p deed.Nothing
  runs_item c p (item.Catalog name) = refl
  runs_item c p (item.Piece piece) = refl
  runs_item c p (item.Row table parts row) = refl
  runs_item c p (item.Tx proc args) = runs_call c (record p { rows_ended = true }) proc args
  runs_item c p (item.End n) = runs_end c (record p { rows_ended = true }) n
  runs_item c p item.Report = refl
  runs_item c p (item.Settings name percent) = runs_settings c (record p { rows_ended = true }) name percent

module _ (plan : Plan) (lines : ℕ) where
  runs_line : (c : Counts) (p : ScriptPlace) (line : List ℕ) → Runs plan (line_after lines) (asked (in_batches plan p) c line)
      (asked (as_run lines (in_batches plan p)) c line)
  runs_line c p line =
      let q = next_line p in
      runs_then plan (line_after lines) (at_item (in_batches plan q) c) (at_item (as_run (line_after lines) (in_batches plan q)) c) (said line)
      (λ i. runs_item plan (line_after lines) c q i)

  -- what `run` is asked for by a line that `once` takes
  pub record IsAskedTo (q : ScriptPlace) (c : Counts) (line : List ℕ) (after : ScriptPlace) (asks : Deed) : Type 0 where
    pub asked_run : asked q c line ≡ Ok (as_run (line_after lines) after, asks)
    pub place_is : after ≡ in_batches plan after

  pub is_asked : (q after : ScriptPlace) (c : Counts) (line : List ℕ) (asks : Deed) (given : Asked) → given ≡ Ok (after, asks)
      → Runs plan (line_after lines) given (asked q c line) → IsAskedTo q c line after asks
  is_asked q after c line asks given is r =
      let ran : Ran plan (line_after lines) (after, asks) (asked q c line) = subst (λ (a : Asked). Runs plan (line_after lines) a (asked q c line)) is r in
      record { asked_run = ran.asked_run; place_is = ran.place_is }

  pub batch_asked : (p after : ScriptPlace) (c : Counts) (line : List ℕ) (asks : Deed) → p ≡ in_batches plan p → asked p c line ≡ Ok (after, asks)
      → IsAskedTo (as_run lines p) c line after asks
  batch_asked p after c line asks at is =
      is_asked (as_run lines p) after c line asks (asked p c line) is
      (subst (λ (q : ScriptPlace). Runs plan (line_after lines) (asked q c line) (asked (as_run lines q) c line)) (sym at) (runs_line c p line))

  -- what `once` refuses
  pub batch_refused : (p : ScriptPlace) (c : Counts) (line : List ℕ) (why : RefusalKind) → p ≡ in_batches plan p → asked p c line ≡ Err why
      → asked (as_run lines p) c line ≡ Err why
  batch_refused p c line why at is =
      let r = subst (λ (q : ScriptPlace). Runs plan (line_after lines) (asked q c line) (asked (as_run lines q) c line)) (sym at) (runs_line c p line) in
      subst (λ (a : Asked). Runs plan (line_after lines) a (asked (as_run lines p) c line)) is r
