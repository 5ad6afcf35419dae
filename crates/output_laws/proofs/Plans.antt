-- The texts of a catalogue that a text says are of printed bytes.
use Rattle.std.proofs.Common.{◌≡◌, ℕ, ◌+◌, Bool, true, false, cond, List, [], ◌∷◌, ◌++◌, length, map, Option, Some, None, Ok, Err, IfOk, refl, subst, arith, Result}
use Rattle.std.specs.Prelude.{nat_le, option_and_then}
use Rattle.std.specs.Str.{is_utf8}
use Rattle.std.specs.List.{AllByRecursion, list_all}
use Rattle.std.proofs.lemmas.Bool.{and_parts}
use Rattle.std.proofs.lemmas.Grind.{common_steps}
use Rattle.aria_base.specs.Texts.{is_word, may_hold}
use Rattle.aria_base.specs.declared.limits.TheConstants.{LONGEST_TEXT, MOST_ARGS}
use Rattle.aria_base.specs.declared.schemas.Table.{Table}
use Rattle.serde_json.specs.Data.{Data, null, boolean, number, string, array, object, Items, no_items, item}
use Rattle.serde_json.specs.Find.{as_array, as_i64, as_str}
use Rattle.serde_json.specs.Read.{read}
use Rattle.proc_lang.specs.declared.flaws.Wrong.{Wrong}
use Rattle.proc_lang.specs.declared.limits.TheConstants.{MOST_FRONT, MOST_PROCS, MOST_REGS}
use Rattle.proc_lang.specs.declared.procs.PathPart.{PathPart}
use Rattle.proc_lang.specs.declared.procs.Proc.{Proc}
use Rattle.proc_lang.specs.Catalogs.{Plan, table_fits}
use Rattle.proc_lang.specs.Steps.{Traps, Fails, Blanks, Step, Steps, Let, Read, Put, Del, If, Each, Give, Fail}
use Rattle.proc_lang.specs.Syntax.{in_turn}
use Rattle.proc_lang.specs.Terms.{Term, Num, Text, Me, Named, Unary, Binary, MulDiv, Front}
use Rattle.proc_lang.specs.Values.{both}
use Rattle.cat_forms.specs.declared.members.Member.TheVariants.{Tables, Procs, Name, Args, Regs, Body}
use Rattle.cat_forms.specs.declared.names.Form.{Form}
use Rattle.cat_forms.specs.declared.names.Form.TheVariants as form
use Rattle.cat_forms.specs.declared.names.Verb.{Verb}
use Rattle.cat_forms.specs.declared.names.Verb.TheVariants as verb
use Rattle.cat_forms.specs.Names.{form_named, verb_named, kind_named, arg_kind_named}
use Rattle.cat_forms.specs.Places.{in_item, in_member}
use Rattle.cat_forms.specs.PlanWalks.{four_members, items_between, name_at, named_at, plan_of, proc_at, procs_after, procs_at, tables_at, two_members}
use Rattle.cat_forms.specs.Shapes.{at_path, index, is_text, number_between, Shaped, text_of}
use Rattle.cat_forms.specs.StepWalks.{block_at, body_at, code, indexes, read_at, row_at, statement_at, step_at, steps_after, table_in, terms_at, verb_at}
use Rattle.cat_forms.specs.TermWalks.{form_at, node_at, term_at, terms_after}
use Rattle.cat_read.proofs.Binds.{at_level_ok, at_path_ok, bind_ok, both_ok, mapped_ok, with_room_ok}
use Rattle.cat_read.proofs.PlanLimits.{plan_limits}
use Rattle.cat_read.specs.Texts.{first_wrong}
use Rattle.cat_text.specs.Texts.{catalog_of, read_by, shaped_by, typed_by}
use Rattle.script_text.proofs.LinesRead.{word_token}
use Rattle.script_text.specs.declared.refusals.CatFault.TheVariants as fault
use Rattle.script_text.specs.declared.refusals.RefusalKind.TheVariants.{Catalog}
use Rattle.output_laws.proofs.Items.{held_printed}
use Rattle.output_laws.proofs.Runs.{PrintedPlan, PrintedStep, PrintedSteps}
use Rattle.output_laws.proofs.Texts.{Printed, all_joined}
use Rattle.output_laws.proofs.Values.{PrintedTerm}

-- ---- expressions

kept_text : (bytes text : List ℕ) → text_of bytes ≡ Some text → Printed text
kept_text bytes text h = by (is_text bytes) refl h
  where
    by : (b : Bool) → is_text bytes ≡ b → cond b (Some bytes) None ≡ Some text → Printed text
    by true e k =
        let same : bytes ≡ text = cc in
        subst Printed same (held_printed bytes (and_parts (nat_le (length bytes) LONGEST_TEXT) (list_all may_hold bytes) e).1)
    by false e k = absurd cc

mutual
  term_printed : (path : List PathPart) (level : ℕ) (d : Data) (t : Term) → term_at path level d ≡ Ok t → PrintedTerm t
  term_printed path level null t h = absurd (cc h)
  term_printed path level (boolean b) t h = absurd (cc h)
  term_printed path level (number n) t h =
      let l = at_level_ok path level _ t h in
      let m = mapped_ok Num (as_i64 n) t (at_path_ok path _ t l.1) in
      subst PrintedTerm m.2 tt
  term_printed path level (string bytes) t h =
      let l = at_level_ok path level _ t h in
      let m = mapped_ok Text (text_of bytes) t (at_path_ok path _ t l.1) in
      subst PrintedTerm m.2 (kept_text bytes m.0 m.1)
  term_printed path level (array ds) t h = let l = at_level_ok path level _ t h in node_printed path level ds t l.1
  term_printed path level (object ms) t h = absurd (cc h)

  node_printed : (path : List PathPart) (level : ℕ) (ds : Items) (t : Term) → node_at path level ds ≡ Ok t → PrintedTerm t
  node_printed path level no_items t h = absurd (cc h)
  node_printed path level (item name operands) t h = form_printed path level (option_and_then form_named (as_str name)) operands t h

  form_printed : (path : List PathPart) (level : ℕ) (f : Option Form) (ds : Items) (t : Term) → form_at path level f ds ≡ Ok t → PrintedTerm t
  form_printed path level (Some form.Me) no_items t h = let e : Me ≡ t = cc h in subst PrintedTerm e tt
  form_printed path level (Some (form.Named from)) (item n no_items) t h =
      let m = mapped_ok (Named from) (index n) t (at_path_ok path _ t h) in
      subst PrintedTerm m.2 tt
  form_printed path level (Some (form.Unary o)) (item x no_items) t h =
      let a = bind_ok (term_at (in_item path 1) (level + 1) x) _ t h in
      let e : Unary o a.0 ≡ t = cc a.2 in
      subst PrintedTerm e (term_printed (in_item path 1) (level + 1) x a.0 a.1)
  form_printed path level (Some (form.Binary o)) (item x (item y no_items)) t h =
      let p = bind_ok (both (term_at (in_item path 1) (level + 1) x) (term_at (in_item path 2) (level + 1) y)) _ t h in
      let ab = both_ok (term_at (in_item path 1) (level + 1) x) (term_at (in_item path 2) (level + 1) y) p.0.0 p.0.1 p.1 in
      let e : Binary o p.0.0 p.0.1 ≡ t = cc p.2 in
      subst PrintedTerm e (term_printed (in_item path 1) (level + 1) x p.0.0 ab.0, term_printed (in_item path 2) (level + 1) y p.0.1 ab.1)
  form_printed path level (Some form.MulDiv) (item x (item y (item z no_items))) t h =
      let p = bind_ok (both (both (term_at (in_item path 1) (level + 1) x) (term_at (in_item path 2) (level + 1) y)) (term_at (in_item path 3) (level + 1) z))
      _ t h in
      let abc = both_ok (both (term_at (in_item path 1) (level + 1) x) (term_at (in_item path 2) (level + 1) y))
      (term_at (in_item path 3) (level + 1) z) p.0.0 p.0.1 p.1 in
      let ab = both_ok (term_at (in_item path 1) (level + 1) x) (term_at (in_item path 2) (level + 1) y) p.0.0.0 p.0.0.1 abc.0 in
      let e : MulDiv p.0.0.0 p.0.0.1 p.0.1 ≡ t = cc p.2 in
      subst PrintedTerm e (
        term_printed (in_item path 1) (level + 1) x p.0.0.0 ab.0,
        term_printed (in_item path 2) (level + 1) y p.0.0.1 ab.1,
        term_printed (in_item path 3) (level + 1) z p.0.1 abc.1,
      )
  form_printed path level (Some form.Front) (item x (item y (item n no_items))) t h =
      let p = bind_ok (both (term_at (in_item path 1) (level + 1) x) (term_at (in_item path 2) (level + 1) y)) _ t h in
      let ab = both_ok (term_at (in_item path 1) (level + 1) x) (term_at (in_item path 2) (level + 1) y) p.0.0 p.0.1 p.1 in
      let m = mapped_ok (Front p.0.0 p.0.1) (number_between 0 MOST_FRONT n) t (at_path_ok path _ t p.2) in
      subst PrintedTerm m.2 (term_printed (in_item path 1) (level + 1) x p.0.0 ab.0, term_printed (in_item path 2) (level + 1) y p.0.1 ab.1)
  form_printed path level other operands t h = absurd (cc h)

terms_printed : (path : List PathPart) (at : ℕ) (done : List Term) (ds : Items) (ts : List Term) → AllByRecursion PrintedTerm done
    → terms_after path at done ds ≡ Ok ts → AllByRecursion PrintedTerm ts
terms_printed path at done no_items ts a e = let same : done ≡ ts = cc e in subst (AllByRecursion PrintedTerm) same a
terms_printed path at done (item d ds) ts a e =
    let b = bind_ok (term_at (in_item path at) 1 d) _ ts e in
    terms_printed path (at + 1) (done ++ b.0 ∷ []) ds ts (all_joined PrintedTerm done (b.0 ∷ []) a (term_printed (in_item path at) 1 d b.0 b.1, tt)) b.2

-- ---- operands

terms_at_printed : (path : List PathPart) (at : ℕ) (d : Data) (ts : List Term) → terms_at path at d ≡ Ok ts → AllByRecursion PrintedTerm ts
terms_at_printed path at d ts h =
    let a = bind_ok (at_path path (as_array d)) _ ts h in
    terms_printed (in_item path at) 0 [] a.0 ts tt a.2

row_at_printed : (tables : List Table) (path : List PathPart) (t ks : Data) (row : ℕ × List Term) → row_at tables path t ks ≡ Ok row
    → AllByRecursion PrintedTerm row.1
row_at_printed tables path t ks row h =
    let n = bind_ok (at_path path (table_in tables t)) _ row h in
    let k = bind_ok (terms_at path 2 ks) _ row n.2 in
    let e : ◌≡◌ {A = ℕ × List Term} (n.0, k.0) row = cc k.2 in
    subst (λ (r : ℕ × List Term). AllByRecursion PrintedTerm r.1) e (terms_at_printed path 2 ks k.0 k.1)

read_at_printed : (tables : List Table) (path : List PathPart) (t ks rs : Data) (read : (ℕ × List Term) × List ℕ) → read_at tables path t ks rs ≡ Ok read
    → AllByRecursion PrintedTerm read.0.1
read_at_printed tables path t ks rs read h =
    let row = bind_ok (row_at tables path t ks) _ read h in
    let regs = bind_ok (at_path path (indexes rs)) _ read row.2 in
    let e : ◌≡◌ {A = (ℕ × List Term) × List ℕ} (row.0, regs.0) read = cc regs.2 in
    subst (λ (r : (ℕ × List Term) × List ℕ). AllByRecursion PrintedTerm r.0.1) e (row_at_printed tables path t ks row.0 row.1)

-- ---- statements

turn_printed : (ss : List Step) → AllByRecursion PrintedStep ss → PrintedSteps (in_turn ss)
turn_printed [] a = tt
turn_printed (s ∷ ss) a = (a.0, turn_printed ss a.1)

same_step : (seen n : ℕ) (s t : Step) → ◌≡◌ {A = Result (Step × ℕ) (List PathPart)} (Ok (s, seen)) (Ok (t, n)) → PrintedStep s → PrintedStep t
same_step seen n s t e h =
    let p : ◌≡◌ {A = Step × ℕ} (s, seen) (t, n) = cc e in
    subst (λ (q : Step × ℕ). PrintedStep q.0) p h

mutual
  step_printed : (tables : List Table) (body path : List PathPart) (seen : ℕ) (d : Data) (s : Step) (n : ℕ) → step_at tables body path seen d ≡ Ok (s, n)
      → PrintedStep s
  step_printed tables body path seen null s n h = absurd (cc h)
  step_printed tables body path seen (boolean b) s n h = absurd (cc h)
  step_printed tables body path seen (number m) s n h = absurd (cc h)
  step_printed tables body path seen (string bytes) s n h = absurd (cc h)
  step_printed tables body path seen (array ds) s n h = statement_printed tables body path seen ds s n h
  step_printed tables body path seen (object ms) s n h = absurd (cc h)

  statement_printed : (tables : List Table) (body path : List PathPart) (seen : ℕ) (ds : Items) (s : Step) (n : ℕ)
      → statement_at tables body path seen ds ≡ Ok (s, n) → PrintedStep s
  statement_printed tables body path seen no_items s n h = absurd (cc h)
  statement_printed tables body path seen (item name operands) s n h =
      verb_printed tables body path seen (option_and_then verb_named (as_str name)) operands s n h

  verb_printed : (tables : List Table) (body path : List PathPart) (seen : ℕ) (v : Option Verb) (ds : Items) (s : Step) (n : ℕ)
      → verb_at tables body path seen v ds ≡ Ok (s, n) → PrintedStep s
  verb_printed tables body path seen (Some verb.Let) (item r (item e no_items)) s n h =
      let a = bind_ok (at_path path (index r)) _ (s, n) h in
      let t = bind_ok (term_at (in_item path 2) 1 e) _ (s, n) a.2 in
      same_step seen n (Let a.0 t.0) s t.2 (term_printed (in_item path 2) 1 e t.0 t.1)
  verb_printed tables body path seen (Some verb.Get) (item t (item ks (item rs no_items))) s n h =
      let a = bind_ok (read_at tables path t ks rs) _ (s, n) h in
      same_step seen n (Read Traps a.0.0.0 a.0.0.1 a.0.1) s a.2 (read_at_printed tables path t ks rs a.0 a.1)
  verb_printed tables body path seen (Some verb.Need) (item t (item ks (item rs (item c no_items)))) s n h =
      let a = bind_ok (read_at tables path t ks rs) _ (s, n) h in
      let f = bind_ok (at_path path (code c)) _ (s, n) a.2 in
      same_step seen n (Read (Fails f.0) a.0.0.0 a.0.0.1 a.0.1) s f.2 (read_at_printed tables path t ks rs a.0 a.1)
  verb_printed tables body path seen (Some verb.Find) (item t (item ks (item rs (item f no_items)))) s n h =
      let a = bind_ok (read_at tables path t ks rs) _ (s, n) h in
      let g = bind_ok (at_path path (index f)) _ (s, n) a.2 in
      same_step seen n (Read (Blanks g.0) a.0.0.0 a.0.0.1 a.0.1) s g.2 (read_at_printed tables path t ks rs a.0 a.1)
  verb_printed tables body path seen (Some verb.Put) (item t (item ks (item es no_items))) s n h =
      let a = bind_ok (row_at tables path t ks) _ (s, n) h in
      let c = bind_ok (terms_at path 3 es) _ (s, n) a.2 in
      same_step seen n (Put a.0.0 a.0.1 c.0) s c.2 (row_at_printed tables path t ks a.0 a.1, terms_at_printed path 3 es c.0 c.1)
  verb_printed tables body path seen (Some verb.Del) (item t (item ks no_items)) s n h =
      let a = bind_ok (row_at tables path t ks) _ (s, n) h in
      same_step seen n (Del a.0.0 a.0.1) s a.2 (row_at_printed tables path t ks a.0 a.1)
  verb_printed tables body path seen (Some verb.If) (item e (item a (item b no_items))) s n h =
      let t = bind_ok (term_at (in_item path 1) 1 e) _ (s, n) h in
      let f = bind_ok (block_at tables body path 2 seen a) _ (s, n) t.2 in
      let g = bind_ok (block_at tables body path 3 f.0.1 b) _ (s, n) f.2 in
      same_step g.0.1 n (If t.0 f.0.0 g.0.0) s g.2 (
        term_printed (in_item path 1) 1 e t.0 t.1,
        block_printed tables body path 2 seen a f.0.0 f.0.1 f.1,
        block_printed tables body path 3 f.0.1 b g.0.0 g.0.1 g.1,
      )
  verb_printed tables body path seen (Some verb.Each) (item l (item a no_items)) s n h =
      let i = bind_ok (at_path path (index l)) _ (s, n) h in
      let f = bind_ok (block_at tables body path 2 seen a) _ (s, n) i.2 in
      same_step f.0.1 n (Each i.0 f.0.0) s f.2 (block_printed tables body path 2 seen a f.0.0 f.0.1 f.1)
  verb_printed tables body path seen (Some verb.Give) (item e no_items) s n h =
      let t = bind_ok (term_at (in_item path 1) 1 e) _ (s, n) h in
      same_step seen n (Give t.0) s t.2 (term_printed (in_item path 1) 1 e t.0 t.1)
  verb_printed tables body path seen (Some verb.Fail) (item c no_items) s n h =
      let f = bind_ok (at_path path (code c)) _ (s, n) h in
      same_step seen n (Fail f.0) s f.2 tt
  verb_printed tables body path seen other operands s n h = absurd (cc h)

  block_printed : (tables : List Table) (body path : List PathPart) (at seen : ℕ) (d : Data) (b : Steps) (n : ℕ)
      → block_at tables body path at seen d ≡ Ok (b, n) → PrintedSteps b
  block_printed tables body path at seen null b n h = absurd (cc h)
  block_printed tables body path at seen (boolean c) b n h = absurd (cc h)
  block_printed tables body path at seen (number m) b n h = absurd (cc h)
  block_printed tables body path at seen (string bytes) b n h = absurd (cc h)
  block_printed tables body path at seen (array ds) b n h = steps_printed tables body (in_item path at) 0 seen [] ds b n tt h
  block_printed tables body path at seen (object ms) b n h = absurd (cc h)

  steps_printed : (tables : List Table) (body path : List PathPart) (at seen : ℕ) (done : List Step) (ds : Items) (b : Steps) (n : ℕ)
      → AllByRecursion PrintedStep done
      → steps_after tables body path at seen done ds ≡ Ok (b, n) → PrintedSteps b
  steps_printed tables body path at seen done no_items b n a h =
      let p : ◌≡◌ {A = Steps × ℕ} (in_turn done, seen) (b, n) = cc h in
      subst (λ (q : Steps × ℕ). PrintedSteps q.0) p (turn_printed done a)
  steps_printed tables body path at seen done (item d ds) b n a h =
      let w = with_room_ok body seen _ (b, n) h in
      let s = bind_ok (step_at tables body (in_item path at) (seen + 1) d) _ (b, n) w.1 in
      steps_printed tables body path (at + 1) s.0.1 (done ++ s.0.0 ∷ []) ds b n
      (all_joined PrintedStep done (s.0.0 ∷ []) a (step_printed tables body (in_item path at) (seen + 1) d s.0.0 s.0.1 s.1, tt)) s.2

body_printed : (tables : List Table) (path : List PathPart) (d : Data) (b : Steps) → body_at tables path d ≡ Ok b → PrintedSteps b
body_printed tables path d b h =
    let ds = bind_ok (at_path path (as_array d)) _ b h in
    let block = bind_ok (steps_after tables path path 0 0 [] ds.0) _ b ds.2 in
    let same : block.0.0 ≡ b = cc block.2 in
    subst PrintedSteps same (steps_printed tables path path 0 0 [] ds.0 block.0.0 block.0.1 tt block.1)

-- ---- catalogues

abbrev IsPrinted : Proc → Type 0
IsPrinted p = PrintedSteps p.body

proc_printed : (tables : List Table) (path : List PathPart) (earlier : List (List ℕ)) (d : Data) (p : Proc) → proc_at tables path earlier d ≡ Ok p → IsPrinted p
proc_printed tables path earlier d p h =
    let ms = bind_ok (at_path path (four_members Name Args Regs Body d)) _ p h in
    let name = bind_ok (name_at (in_member path Name) earlier ms.0.0) _ p ms.2 in
    let args = bind_ok (named_at arg_kind_named (in_member path Args) 0 MOST_ARGS ms.0.1) _ p name.2 in
    let regs = bind_ok (named_at kind_named (in_member path Regs) 0 MOST_REGS ms.0.2) _ p args.2 in
    let body = bind_ok (body_at tables (in_member path Body) ms.0.3) _ p regs.2 in
    let e : ◌≡◌ {A = Proc} (record { name = name.0; args = args.0; regs = regs.0; body = body.0 }) p = cc body.2 in
    subst IsPrinted e (body_printed tables (in_member path Body) ms.0.3 body.0 body.1)

procs_printed : (tables : List Table) (path : List PathPart) (at : ℕ) (done : List Proc) (ds : Items) (ps : List Proc) → AllByRecursion IsPrinted done
    → procs_after tables path at done ds ≡ Ok ps
    → AllByRecursion IsPrinted ps
procs_printed tables path at done no_items ps a h = let same : done ≡ ps = cc h in subst (AllByRecursion IsPrinted) same a
procs_printed tables path at done (item d ds) ps a h =
    let b = bind_ok (proc_at tables (in_item path at) (map (λ p. p.name) done) d) _ ps h in
    procs_printed tables path (at + 1) (done ++ b.0 ∷ []) ds ps
    (all_joined IsPrinted done (b.0 ∷ []) a (proc_printed tables (in_item path at) (map (λ p. p.name) done) d b.0 b.1, tt)) b.2

tables_printed : (ts : List Table) → list_all table_fits ts ≡ true → AllByRecursion (λ (t : Table). Printed t.name) ts
tables_printed [] h = tt
tables_printed (t ∷ ts) h =
    let parts = and_parts (table_fits t) (list_all table_fits ts) h in
    let fits = parts.0 in
    let word : is_word t.name ≡ true = grind (arith, common_steps, fits) in
    ((word_token t.name word).printed, tables_printed ts parts.1)

pub plan_printed : (d : Data) (plan : Plan) → plan_of d ≡ Ok plan → PrintedPlan plan
plan_printed d plan h =
    let limits = plan_limits d plan h in
    let ms = bind_ok (at_path [] (two_members Tables Procs d)) _ plan h in
    let ts = bind_ok (tables_at (in_member [] Tables) ms.0.0) _ plan ms.2 in
    let ps = bind_ok (procs_at ts.0 (in_member [] Procs) ms.0.1) _ plan ts.2 in
    let ds = bind_ok (at_path (in_member [] Procs) (items_between 0 MOST_PROCS ms.0.1)) _ ps.0 ps.1 in
    let e : ◌≡◌ {A = Plan} (record { tables = ts.0; procs = ps.0 }) plan = cc ps.2 in
    record {
      tables = tables_printed plan.tables limits.tables.fit;
      procs = subst (λ (q : Plan). AllByRecursion IsPrinted q.procs) e (procs_printed ts.0 (in_member [] Procs) 0 [] ds.0 ps.0 tt ds.2);
    }

-- ---- texts

typed_printed : (plan : Plan) (o : Option Wrong) → PrintedPlan plan → IfOk (typed_by plan o) PrintedPlan
typed_printed plan None h = h
typed_printed plan (Some wrong) h = tt

shaped_printed : (d : Data) (s : Shaped Plan) → plan_of d ≡ s → IfOk (shaped_by s) PrintedPlan
shaped_printed d (Ok plan) e = typed_printed plan (first_wrong plan) (plan_printed d plan e)
shaped_printed d (Err path) e = tt

read_printed : (o : Option Data) → IfOk (read_by o) PrintedPlan
read_printed None = tt
read_printed (Some d) = shaped_printed d (plan_of d) refl

pub catalog_printed : (text : List ℕ) → IfOk (catalog_of text) PrintedPlan
catalog_printed text = by (is_utf8 text)
  where
    by : (b : Bool) → IfOk (cond b (read_by (read text)) (Err (Catalog fault.NotJson))) PrintedPlan
    by true = read_printed (read text)
    by false = tt
