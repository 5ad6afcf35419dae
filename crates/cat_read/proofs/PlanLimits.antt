-- What the walk reads as a catalogue is within the limits, under names of its own.
use Rattle.std.proofs.Common.{◌≡◌, ℕ, ◌+◌, ◌≤◌, List, [], ◌∷◌, ◌++◌, length, map, Option, Some, None, Bool, true, false, cond, refl, subst, arith, length-append}
use Rattle.std.specs.declared.result.Result.TheVariants.{Ok}
use Rattle.std.specs.Prelude.{option_and_then, ◌&&◌, ◌||◌, not, nat_le, find}
use Rattle.std.specs.List.{All, list_all, list_any}
use Rattle.std.specs.Str.{bytes_eq}
use Rattle.std.proofs.lemmas.List.Folds.{list_all-append}
use Rattle.std.proofs.lemmas.List.{map-append}
use Rattle.std.proofs.lemmas.Grind.{common_steps}
use Rattle.aria_base.specs.Texts.{is_word}
use Rattle.aria_base.specs.declared.schemas.Table.{Table}
use Rattle.aria_base.specs.declared.values.Kind.{Kind}
use Rattle.serde_json.specs.Data.{Data, Items, no_items, item}
use Rattle.serde_json.specs.Events.{items_len}
use Rattle.serde_json.specs.Find.{as_str, as_array}
use Rattle.proc_lang.specs.declared.procs.ArgKind.{ArgKind}
use Rattle.proc_lang.specs.declared.procs.PathPart.{PathPart}
use Rattle.proc_lang.specs.declared.procs.Proc.{Proc}
use Rattle.aria_base.specs.declared.limits.TheConstants.{FEWEST_PARTS, MOST_PARTS, MOST_COLUMNS, MOST_ARGS}
use Rattle.proc_lang.specs.declared.limits.TheConstants.{MOST_TABLES, MOST_PROCS, MOST_REGS, MOST_STATEMENTS}
use Rattle.proc_lang.specs.Catalogs.{Plan, IsCatalog, is_between, arg_kind_fits, table_fits, proc_fits, steps_count, distinct}
use Rattle.proc_lang.specs.Typing.{IsWellTyped}
use Rattle.cat_forms.specs.declared.names.TheConstants.{ARG_KINDS}
use Rattle.cat_forms.specs.declared.members.Member.TheVariants.{Tables, Procs, Name, Key, Cols, Args, Regs, Body}
use Rattle.cat_forms.specs.Names.{kind_named, arg_kind_named, arg_kind_name}
use Rattle.cat_forms.specs.Places.{in_member, in_item}
use Rattle.cat_forms.specs.Shapes.{at_path}
use Rattle.cat_forms.specs.PlanWalks.{two_members, three_members, four_members, new_word, name_at, items_between, named_after, named_at, table_at, tables_after, tables_at, proc_at, procs_after, procs_at, plan_of}
use Rattle.cat_forms.specs.StepWalks.{body_at}
use Rattle.cat_forms.proofs.NamesAgain.{bytes_eq-sym}
use Rattle.cat_read.proofs.Binds.{bind_ok, at_path_ok, chained_ok}
use Rattle.cat_read.proofs.StepLimits.{body_fits}

-- ---- names

pub record IsNew (earlier : List (List ℕ)) (name : List ℕ) : Type 0 where
  pub word : is_word name ≡ true
  pub other : list_any (bytes_eq name) earlier ≡ false

new_word_ok : (earlier : List (List ℕ)) (s name : List ℕ) → new_word earlier s ≡ Some name → IsNew earlier name
new_word_ok earlier s name h = tested (is_word s) (list_any (bytes_eq s) earlier) refl refl h where
  tested : (a b : Bool) → is_word s ≡ a → list_any (bytes_eq s) earlier ≡ b → cond (a && not b) (Some s) None ≡ Some name → IsNew earlier name
  tested true false e f h = let same : s ≡ name = cc h in subst (λ s. IsNew earlier s) same (record { word = e; other = f })
  tested true true e f h = absurd (cc h)
  tested false b e f h = absurd (cc h)

name_ok : (path : List PathPart) (earlier : List (List ℕ)) (d : Data) (name : List ℕ) → name_at path earlier d ≡ Ok name → IsNew earlier name
name_ok path earlier d name h =
    let s = chained_ok (new_word earlier) (as_str d) name (at_path_ok path _ name h) in
    new_word_ok earlier s.0 name s.2

-- ---- kinds

items_bounded : (low high : ℕ) (d : Data) (ds : Items) → items_between low high d ≡ Some ds → is_between low high (items_len ds) ≡ true
items_bounded low high d ds h =
    let a = chained_ok (λ ds. cond (is_between low high (items_len ds)) (Some ds) None) (as_array d) ds h in
    tested a.0 (is_between low high (items_len a.0)) refl a.2 where
      tested : (es : Items) (b : Bool) → is_between low high (items_len es) ≡ b → cond b (Some es) None ≡ Some ds → is_between low high (items_len ds) ≡ true
      tested es true e h = let same : es ≡ ds = cc h in subst (λ es. is_between low high (items_len es) ≡ true) same e
      tested es false e h = absurd (cc h)

module _ {A : Type 0} (named : List ℕ → Option A) (fits : A → Bool) (all_fit : (s : List ℕ) (x : A) → named s ≡ Some x → fits x ≡ true) where
  named_fit : (path : List PathPart) (at : ℕ) (done : List A) (ds : Items) (xs : List A) → list_all fits done ≡ true
      → named_after named path at done ds ≡ Ok xs → (list_all fits xs ≡ true) × (length xs ≡ length done + items_len ds)
  named_fit path at done no_items xs h e = let same : done ≡ xs = cc e in
      subst (λ xs. (list_all fits xs ≡ true) × (length xs ≡ length done + 0)) same (h, omega arith)
  named_fit path at done (item d ds) xs h e =
      let b = bind_ok (at_path (in_item path at) (option_and_then named (as_str d))) _ xs e in
      let s = chained_ok named (as_str d) b.0 (at_path_ok (in_item path at) _ b.0 b.1) in
      let rest = named_fit path (at + 1) (done ++ b.0 ∷ []) ds xs (rw (list_all-append fits done (b.0 ∷ []), h, all_fit s.0 b.0 s.2)) b.2 in
      (rest.0, omega (arith, rest.1, length-append done (b.0 ∷ [])))

  pub named_ok : (path : List PathPart) (low high : ℕ) (d : Data) (xs : List A) → named_at named path low high d ≡ Ok xs
      → (list_all fits xs ≡ true) × (is_between low high (length xs) ≡ true)
  named_ok path low high d xs h =
      let ds = bind_ok (at_path path (items_between low high d)) _ xs h in
      let b = items_bounded low high d ds.0 (at_path_ok path _ ds.0 ds.1) in
      let n = named_fit path 0 [] ds.0 xs refl ds.2 in
      let len : length xs ≡ items_len ds.0 = omega (arith, n.1) in
      (n.0, rw len b)

kinds_ok : (path : List PathPart) (low high : ℕ) (d : Data) (ks : List Kind) → named_at kind_named path low high d ≡ Ok ks
    → is_between low high (length ks) ≡ true
kinds_ok path low high d ks h = (named_ok kind_named (λ _. true) (λ s x e. refl) path low high d ks h).1

find_passes : {A : Type 0} (p q : A → Bool) (xs : List A) (x : A) → list_all q xs ≡ true → find p xs ≡ Some x → q x ≡ true
find_passes p q [] x h e = absurd (cc e)
find_passes p q (y ∷ ys) x h e = tested (p y) (q y) refl h e (find_passes p q ys x) where
  tested : (b c : Bool) → q y ≡ c → (c && list_all q ys) ≡ true → cond b (Some y) (find p ys) ≡ Some x
      → (list_all q ys ≡ true → find p ys ≡ Some x → q x ≡ true) → q x ≡ true
  tested true true f h e rest = let same : y ≡ x = cc e in rw (← same) f
  tested false true f h e rest = rest h e
  tested b false f h e rest = absurd (cc h)

arg_kind_ok : (s : List ℕ) (k : ArgKind) → arg_kind_named s ≡ Some k → arg_kind_fits k ≡ true
arg_kind_ok s k h = find_passes (λ k. bytes_eq (arg_kind_name k) s) arg_kind_fits ARG_KINDS k refl h

-- ---- names of their own

-- a name that none of them has may stand behind them
list_any-last : (name : List ℕ) (names : List (List ℕ)) (new : List ℕ) → list_any (bytes_eq name) names ≡ false → bytes_eq new name ≡ false
    → list_any (bytes_eq name) (names ++ new ∷ []) ≡ false
list_any-last name [] new h e = rw (bytes_eq-sym name new, e)
list_any-last name (n ∷ names) new h e = tested (bytes_eq name n) refl h (λ h. list_any-last name names new h e) where
  tested : (b : Bool) → bytes_eq name n ≡ b → (b || list_any (bytes_eq name) names) ≡ false
      → (list_any (bytes_eq name) names ≡ false → list_any (bytes_eq name) (names ++ new ∷ []) ≡ false)
      → (bytes_eq name n || list_any (bytes_eq name) (names ++ new ∷ [])) ≡ false
  tested true f h rest = absurd (cc h)
  tested false f h rest = rw f (rest h)

distinct-last : (names : List (List ℕ)) (new : List ℕ) → distinct names ≡ true → list_any (bytes_eq new) names ≡ false → distinct (names ++ new ∷ []) ≡ true
distinct-last [] new h e = refl
distinct-last (n ∷ names) new h e = tested (list_any (bytes_eq n) names) (bytes_eq new n) refl refl h e (distinct-last names new) where
  tested : (a b : Bool) → list_any (bytes_eq n) names ≡ a → bytes_eq new n ≡ b → (not a && distinct names) ≡ true
      → (b || list_any (bytes_eq new) names) ≡ false → (distinct names ≡ true → list_any (bytes_eq new) names ≡ false → distinct (names ++ new ∷ []) ≡ true)
      → (not (list_any (bytes_eq n) (names ++ new ∷ [])) && distinct (names ++ new ∷ [])) ≡ true
  tested false false f g h e rest = rw (list_any-last n names new f g, rest h e)
  tested true b f g h e rest = absurd (cc h)
  tested false true f g h e rest = absurd (cc e)

-- ---- tables

table_ok : (path : List PathPart) (earlier : List (List ℕ)) (d : Data) (t : Table) → table_at path earlier d ≡ Ok t
    → (table_fits t ≡ true) × (list_any (bytes_eq t.name) earlier ≡ false)
table_ok path earlier d t h =
    let ms = bind_ok (at_path path (three_members Name Key Cols d)) _ t h in
    let name = bind_ok (name_at (in_member path Name) earlier ms.0.0) _ t ms.2 in
    let key = bind_ok (named_at kind_named (in_member path Key) FEWEST_PARTS MOST_PARTS ms.0.1) _ t name.2 in
    let cols = bind_ok (named_at kind_named (in_member path Cols) 0 MOST_COLUMNS ms.0.2) _ t key.2 in
    let n = name_ok (in_member path Name) earlier ms.0.0 name.0 name.1 in
    let k = kinds_ok (in_member path Key) FEWEST_PARTS MOST_PARTS ms.0.1 key.0 key.1 in
    let c = kinds_ok (in_member path Cols) 0 MOST_COLUMNS ms.0.2 cols.0 cols.1 in
    let e : ◌≡◌ {A = Table} (record { name = name.0; key = key.0; cols = cols.0 }) t = cc cols.2 in
    subst (λ (t : Table). (table_fits t ≡ true) × (list_any (bytes_eq t.name) earlier ≡ false)) e (rw (n.word, k) (grind (arith, common_steps, c)), n.other)

-- the tables fit, under names of their own
pub record AreTables (ts : List Table) : Type 0 where
  pub fit : list_all table_fits ts ≡ true
  pub names : distinct (map (λ t. t.name) ts) ≡ true

tables_ok : (path : List PathPart) (at : ℕ) (done : List Table) (ds : Items) (ts : List Table) → AreTables done → tables_after path at done ds ≡ Ok ts
    → AreTables ts × (length ts ≡ length done + items_len ds)
tables_ok path at done no_items ts a h =
    let same : done ≡ ts = cc h in
    subst (λ (ts : List Table). AreTables ts × (length ts ≡ length done + 0)) same (a, omega arith)
tables_ok path at done (item d ds) ts a h =
    let b = bind_ok (table_at (in_item path at) (map (λ t. t.name) done) d) _ ts h in
    let t = table_ok (in_item path at) (map (λ t. t.name) done) d b.0 b.1 in
    let more : AreTables (done ++ b.0 ∷ []) = record {
      fit = rw (list_all-append table_fits done (b.0 ∷ []), a.fit, t.0);
      names =
          rw (map-append (λ (t : Table). t.name) done (b.0 ∷ [])) (distinct-last (map (λ (t : Table). t.name) done) b.0.name a.names t.1);
    } in
    let rest = tables_ok path (at + 1) (done ++ b.0 ∷ []) ds ts more b.2 in
    (rest.0, omega (arith, rest.1, length-append done (b.0 ∷ [])))

-- ---- procedures

proc_ok : (tables : List Table) (path : List PathPart) (earlier : List (List ℕ)) (d : Data) (p : Proc) → proc_at tables path earlier d ≡ Ok p
    → (proc_fits p ≡ true) × (list_any (bytes_eq p.name) earlier ≡ false)
proc_ok tables path earlier d p h =
    let ms = bind_ok (at_path path (four_members Name Args Regs Body d)) _ p h in
    let name = bind_ok (name_at (in_member path Name) earlier ms.0.0) _ p ms.2 in
    let args = bind_ok (named_at arg_kind_named (in_member path Args) 0 MOST_ARGS ms.0.1) _ p name.2 in
    let regs = bind_ok (named_at kind_named (in_member path Regs) 0 MOST_REGS ms.0.2) _ p args.2 in
    let body = bind_ok (body_at tables (in_member path Body) ms.0.3) _ p regs.2 in
    let n = name_ok (in_member path Name) earlier ms.0.0 name.0 name.1 in
    let a = named_ok arg_kind_named arg_kind_fits arg_kind_ok (in_member path Args) 0 MOST_ARGS ms.0.1 args.0 args.1 in
    let few : nat_le (length args.0) MOST_ARGS ≡ true = grind (arith, common_steps, a.1) in
    let r = kinds_ok (in_member path Regs) 0 MOST_REGS ms.0.2 regs.0 regs.1 in
    let few_regs : nat_le (length regs.0) MOST_REGS ≡ true = grind (arith, common_steps, r) in
    let b = body_fits tables (in_member path Body) ms.0.3 body.0 body.1 in
    let few_steps : nat_le (steps_count body.0) MOST_STATEMENTS ≡ true = grind (arith, common_steps, b.1) in
    let e : ◌≡◌ {A = Proc} (record { name = name.0; args = args.0; regs = regs.0; body = body.0 }) p = cc body.2 in
    subst (λ (p : Proc). (proc_fits p ≡ true) × (list_any (bytes_eq p.name) earlier ≡ false)) e (rw (n.word, few, a.0, few_regs, few_steps, b.0), n.other)

pub record AreProcs (ps : List Proc) : Type 0 where
  pub fit : list_all proc_fits ps ≡ true
  pub names : distinct (map (λ p. p.name) ps) ≡ true

procs_ok : (tables : List Table) (path : List PathPart) (at : ℕ) (done : List Proc) (ds : Items) (ps : List Proc) → AreProcs done
    → procs_after tables path at done ds ≡ Ok ps → AreProcs ps × (length ps ≡ length done + items_len ds)
procs_ok tables path at done no_items ps a h =
    let same : done ≡ ps = cc h in
    subst (λ (ps : List Proc). AreProcs ps × (length ps ≡ length done + 0)) same (a, omega arith)
procs_ok tables path at done (item d ds) ps a h =
    let b = bind_ok (proc_at tables (in_item path at) (map (λ p. p.name) done) d) _ ps h in
    let t = proc_ok tables (in_item path at) (map (λ p. p.name) done) d b.0 b.1 in
    let more : AreProcs (done ++ b.0 ∷ []) = record {
      fit = rw (list_all-append proc_fits done (b.0 ∷ []), a.fit, t.0);
      names =
          rw (map-append (λ (p : Proc). p.name) done (b.0 ∷ [])) (distinct-last (map (λ (p : Proc). p.name) done) b.0.name a.names t.1);
    } in
    let rest = procs_ok tables path (at + 1) (done ++ b.0 ∷ []) ds ps more b.2 in
    (rest.0, omega (arith, rest.1, length-append done (b.0 ∷ [])))

-- ---- the catalogue

-- all but the typing
pub record HasLimits (plan : Plan) : Type 0 where
  pub tables : AreTables plan.tables
  pub procs : AreProcs plan.procs
  pub few_tables : length plan.tables ≤ MOST_TABLES
  pub few_procs : length plan.procs ≤ MOST_PROCS

pub plan_limits : (d : Data) (plan : Plan) → plan_of d ≡ Ok plan → HasLimits plan
plan_limits d plan h =
    let ms = bind_ok (at_path [] (two_members Tables Procs d)) _ plan h in
    let ts = bind_ok (tables_at (in_member [] Tables) ms.0.0) _ plan ms.2 in
    let ps = bind_ok (procs_at ts.0 (in_member [] Procs) ms.0.1) _ plan ts.2 in
    let tds = bind_ok (at_path (in_member [] Tables) (items_between 0 MOST_TABLES ms.0.0)) _ ts.0 ts.1 in
    let pds = bind_ok (at_path (in_member [] Procs) (items_between 0 MOST_PROCS ms.0.1)) _ ps.0 ps.1 in
    let t = tables_ok (in_member [] Tables) 0 [] tds.0 ts.0 (record { fit = refl; names = refl }) tds.2 in
    let p = procs_ok ts.0 (in_member [] Procs) 0 [] pds.0 ps.0 (record { fit = refl; names = refl }) pds.2 in
    let tb = items_bounded 0 MOST_TABLES ms.0.0 tds.0 (at_path_ok _ _ tds.0 tds.1) in
    let pb = items_bounded 0 MOST_PROCS ms.0.1 pds.0 (at_path_ok _ _ pds.0 pds.1) in
    let tl : items_len tds.0 ≤ MOST_TABLES = grind (arith, common_steps, tb) in
    let pl : items_len pds.0 ≤ MOST_PROCS = grind (arith, common_steps, pb) in
    let e : ◌≡◌ {A = Plan} (record { tables = ts.0; procs = ps.0 }) plan = cc ps.2 in
    subst (λ (plan : Plan). HasLimits plan) e (record {
      tables = t.0;
      procs = p.0;
      few_tables = omega (arith, t.1, tl);
      few_procs = omega (arith, p.1, pl);
    })

-- and with the typing it is one
pub is_catalog : (d : Data) (plan : Plan) → plan_of d ≡ Ok plan → All (IsWellTyped plan.tables) plan.procs → IsCatalog plan
is_catalog d plan h typed =
    let l = plan_limits d plan h in
    record {
      few_tables = l.few_tables;
      few_procs = l.few_procs;
      tables_fit = l.tables.fit;
      procs_fit = l.procs.fit;
      table_names = l.tables.names;
      proc_names = l.procs.names;
      typed = typed;
    }
