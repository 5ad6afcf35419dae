-- What is written of a catalogue reads as it.
use Rattle.std.proofs.Common.{◌≡◌, ℕ, suc, ◌+◌, ◌≤◌, List, [], ◌∷◌, ◌++◌, map, length, get_or, Option, Some, None, Bool, true, false, cond, Result, refl, ap, sym, ◌∙◌, arith, rules}
use Rattle.std.specs.declared.result.Result.TheVariants.{Ok, Err}
use Rattle.std.specs.Prelude.{◌&&◌, ◌||◌, not}
use Rattle.std.specs.List.{All, list_all, list_any}
use Rattle.std.specs.Str.{bytes_eq}
use Rattle.std.specs.Result.{IsOk}
use Rattle.std.proofs.lemmas.Bool.{and_parts, not-true}
use Rattle.std.proofs.lemmas.List.{append_assoc, append-nil, length-map, map-append}
use Rattle.std.proofs.lemmas.List.Folds.{list_any-append}
use Rattle.std.proofs.lemmas.List.Sums.{AllPass-from_list_all, list_all-from_AllPass}
use Rattle.std.proofs.lemmas.Grind.{common_steps}
use Rattle.aria_base.specs.Texts.{is_word}
use Rattle.aria_base.specs.declared.schemas.Table.{Table}
use Rattle.aria_base.specs.declared.values.Kind.{Kind}
use Rattle.serde_json.specs.Data.{Data, Items, no_items, item, string}
use Rattle.serde_json.specs.Data as json
use Rattle.serde_json.specs.Events.{items_len}
use Rattle.serde_json.specs.View.{items_of}
use Rattle.proc_lang.specs.declared.procs.PathPart.{PathPart}
use Rattle.proc_lang.specs.declared.procs.Proc.{Proc}
use Rattle.aria_base.specs.declared.limits.TheConstants.{FEWEST_PARTS, MOST_PARTS, MOST_COLUMNS, MOST_ARGS}
use Rattle.proc_lang.specs.declared.limits.TheConstants.{MOST_TABLES, MOST_PROCS, MOST_REGS, MOST_STATEMENTS}
use Rattle.proc_lang.specs.Catalogs.{Plan, IsCatalog, is_between, arg_kind_fits, table_fits, proc_fits, steps_fit, steps_count, distinct}
use Rattle.proc_lang.specs.Typing.{IsWellTyped, Reached, Flaw, typed_proc, scope_of, at_start}
use Rattle.cat_forms.specs.declared.members.Member.TheVariants.{Tables, Procs, Name, Key, Cols, Args, Regs, Body}
use Rattle.cat_forms.specs.Names.{kind_name, kind_named, arg_kind_name, arg_kind_named}
use Rattle.cat_forms.specs.Places.{in_member, in_item}
use Rattle.cat_forms.specs.Shapes.{Shaped, at_path}
use Rattle.cat_forms.specs.PlanWalks.{name_at, items_between, named_after, named_at, table_at, tables_after, proc_at, procs_after, plan_of}
use Rattle.cat_forms.specs.Written.{list_data, kinds_data, table_data, proc_data, data_of}
use Rattle.cat_forms.proofs.NamesAgain.{bytes_eq-sym, kind_again, arg_kind_again}
use Rattle.cat_write.specs.Held.{steps_held}
use Rattle.cat_write.proofs.StepsAgain.{AllFit, body_again}
use Rattle.cat_write.proofs.Soundness.{AllSound, all_nest, steps_sound}

-- ---- names and kinds

name_again : (path : List PathPart) (earlier : List (List ℕ)) (name : List ℕ) → is_word name ≡ true → list_any (bytes_eq name) earlier ≡ false
    → name_at path earlier (string name) ≡ Ok name
name_again path earlier name h k = ap (λ (b : Bool). at_path path (cond (b && not (list_any (bytes_eq name) earlier)) (Some name) None)) h
    ∙ ap (λ (b : Bool). at_path path (cond (not b) (Some name) None)) k

items_len-items_of : (ds : List Data) → items_len (items_of ds) ≡ length ds
items_len-items_of [] = refl
items_len-items_of (d ∷ ds) = ap suc (items_len-items_of ds)

-- a list within its bounds has these items
items_again : {A : Type 0} (f : A → Data) (low high : ℕ) (xs : List A) → is_between low high (length xs) ≡ true
    → items_between low high (list_data (map f xs)) ≡ Some (items_of (map f xs))
items_again f low high xs h =
    let len : items_len (items_of (map f xs)) ≡ length xs = items_len-items_of (map f xs) ∙ length-map xs f in
    ap (λ (b : Bool). cond b (Some (items_of (map f xs))) None) (ap (is_between low high) len ∙ h)

module _ {A : Type 0} (named : List ℕ → Option A) (name : A → List ℕ) (fits : A → Bool) (again : (x : A) → fits x ≡ true → named (name x) ≡ Some x) where
  named_again : (path : List PathPart) (at : ℕ) (done xs : List A) → list_all fits xs ≡ true
      → named_after named path at done (items_of (map (λ x. string (name x)) xs)) ≡ Ok (done ++ xs)
  named_again path at done [] h = ap Ok (sym (append-nil done))
  named_again path at done (x ∷ xs) h =
      let fit = and_parts (fits x) (list_all fits xs) h in
      let e = again x fit.0 in
      let rest = named_again path (at + 1) (done ++ x ∷ []) xs fit.1 in
      rw e (rest ∙ ap Ok (append_assoc done (x ∷ []) xs))

  array_again : (path : List PathPart) (low high : ℕ) (xs : List A) → list_all fits xs ≡ true → is_between low high (length xs) ≡ true
      → named_at named path low high (list_data (map (λ x. string (name x)) xs)) ≡ Ok xs
  array_again path low high xs h k =
      let e = items_again (λ x. string (name x)) low high xs k in
      let f = named_again path 0 [] xs h in
      rw (e, f)

kinds_again : (path : List PathPart) (low high : ℕ) (ks : List Kind) → is_between low high (length ks) ≡ true
    → named_at kind_named path low high (kinds_data ks) ≡ Ok ks
kinds_again path low high ks h = array_again kind_named kind_name (λ k. true) (λ k h. kind_again k) path low high ks
    (list_all-from_AllPass (λ k. true) ks (λ i k below. refl)) h

-- ---- lists under names of their own

-- of names that are apart, the first of those that are left is none of those before
head_apart : (before : List (List ℕ)) (name : List ℕ) (rest : List (List ℕ)) → distinct (before ++ name ∷ rest) ≡ true → list_any (bytes_eq name) before ≡ false
head_apart [] name rest d = refl
head_apart (b ∷ before) name rest d =
    let apart = and_parts (not (list_any (bytes_eq b) (before ++ name ∷ rest))) (distinct (before ++ name ∷ rest)) d in
    let all : (list_any (bytes_eq b) before || (bytes_eq b name || list_any (bytes_eq b) rest)) ≡ false =
    sym (list_any-append (bytes_eq b) before (name ∷ rest)) ∙ not-true (list_any (bytes_eq b) (before ++ name ∷ rest)) apart.0 in
    let other : bytes_eq b name ≡ false = grind (arith, common_steps, all) in
    let back : bytes_eq name b ≡ false = bytes_eq-sym name b ∙ other in
    let others = head_apart before name rest apart.1 in
    rw (back, others)

-- a walk that reads item by item, each under a name that none of those that are done has
module _ {A : Type 0} (name : A → List ℕ) (said : A → Data) (Stands : A → Type 0) (walk : List PathPart → ℕ → List A → Items → Shaped (List A))
    (none : (path : List PathPart) (at : ℕ) (done : List A) → walk path at done no_items ≡ Ok done)
    (again : (path : List PathPart) (at : ℕ) (done : List A) (x : A) (ds : Items) → Stands x → list_any (bytes_eq (name x)) (map name done) ≡ false
    → walk path at done (item (said x) ds) ≡ walk path (at + 1) (done ++ x ∷ []) ds) where
  walk_again : (path : List PathPart) (at : ℕ) (done xs : List A) → All Stands xs → distinct (map name done ++ map name xs) ≡ true
      → walk path at done (items_of (map said xs)) ≡ Ok (done ++ xs)
  walk_again path at done [] stand d = none path at done ∙ ap Ok (sym (append-nil done))
  walk_again path at done (x ∷ xs) stand d =
      let e = again path at done x (items_of (map said xs)) (stand 0 x (omega arith)) (head_apart (map name done) (name x) (map name xs) d) in
      let moved : map name (done ++ x ∷ []) ++ map name xs ≡ map name done ++ name x ∷ map name xs =
      ap (λ ns. ns ++ map name xs) (map-append name done (x ∷ [])) ∙ append_assoc (map name done) (name x ∷ []) (map name xs) in
      let rest = walk_again path (at + 1) (done ++ x ∷ []) xs (λ k y below. stand (suc k) y (omega (arith, below))) (ap distinct moved ∙ d) in
      e ∙ rest ∙ ap Ok (append_assoc done (x ∷ []) xs)

-- ---- tables

table_again : (path : List PathPart) (earlier : List (List ℕ)) (t : Table) → table_fits t ≡ true → list_any (bytes_eq t.name) earlier ≡ false
    → table_at path earlier (table_data t) ≡ Ok t
table_again path earlier t f new =
    let word : is_word t.name ≡ true = grind (arith, common_steps, f) in
    let parts : is_between FEWEST_PARTS MOST_PARTS (length t.key) ≡ true = grind (arith, common_steps, f) in
    let columns : is_between 0 MOST_COLUMNS (length t.cols) ≡ true = grind (arith, common_steps, f) in
    let en = name_again (in_member path Name) earlier t.name word new in
    let ek = kinds_again (in_member path Key) FEWEST_PARTS MOST_PARTS t.key parts in
    let ec = kinds_again (in_member path Cols) 0 MOST_COLUMNS t.cols columns in
    rw (en, ek, ec)

tables_again : (path : List PathPart) (ts : List Table) → list_all table_fits ts ≡ true → distinct (map (λ t. t.name) ts) ≡ true
    → tables_after path 0 [] (items_of (map table_data ts)) ≡ Ok ts
tables_again path ts f d = walk_again (λ t. t.name) table_data (λ t. table_fits t ≡ true) tables_after (λ path at done. refl)
    (λ (path : List PathPart) (at : ℕ) (done : List Table) (t : Table) (ds : Items) (fits : table_fits t ≡ true) (new : list_any (bytes_eq t.name)
    (map (λ t. t.name) done) ≡ false). let e = table_again (in_item path at) (map (λ t. t.name) done) t fits new in rw e)
    path 0 [] ts (AllPass-from_list_all table_fits ts f) d

-- ---- procedures

-- it may be written under these tables
record Stands (tables : List Table) (p : Proc) : Type 0 where
  fits : proc_fits p ≡ true
  body : AllFit tables p.body

proc_again : (tables : List Table) → distinct (map (λ t. t.name) tables) ≡ true → (path : List PathPart) (earlier : List (List ℕ)) (p : Proc) → Stands tables p
    → list_any (bytes_eq p.name) earlier ≡ false → proc_at tables path earlier (proc_data tables p) ≡ Ok p
proc_again tables d path earlier p s new =
    let f = s.fits in
    let word : is_word p.name ≡ true = grind (arith, common_steps, f) in
    let args : is_between 0 MOST_ARGS (length p.args) ≡ true = grind (arith, common_steps, f) in
    let kinds : list_all arg_kind_fits p.args ≡ true = grind (arith, common_steps, f) in
    let regs : is_between 0 MOST_REGS (length p.regs) ≡ true = grind (arith, common_steps, f) in
    let few : steps_count p.body ≤ MOST_STATEMENTS = grind (arith, common_steps, f) in
    let en = name_again (in_member path Name) earlier p.name word new in
    let ea = array_again arg_kind_named arg_kind_name arg_kind_fits arg_kind_again (in_member path Args) 0 MOST_ARGS p.args kinds args in
    let er = kinds_again (in_member path Regs) 0 MOST_REGS p.regs regs in
    let eb = body_again tables d (in_member path Body) p.body s.body few in
    rw (en, ea, er, eb)

procs_again : (tables : List Table) → distinct (map (λ t. t.name) tables) ≡ true → (path : List PathPart) (ps : List Proc) → All (Stands tables) ps
    → distinct (map (λ p. p.name) ps) ≡ true → procs_after tables path 0 [] (items_of (map (proc_data tables) ps)) ≡ Ok ps
procs_again tables dt path ps stand d = walk_again (λ p. p.name) (proc_data tables) (Stands tables) (procs_after tables) (λ path at done. refl)
    (λ (path : List PathPart) (at : ℕ) (done : List Proc) (p : Proc) (ds : Items) (s : Stands tables p) (new : list_any (bytes_eq p.name)
    (map (λ p. p.name) done) ≡ false). let e = proc_again tables dt (in_item path at) (map (λ p. p.name) done) p s new in rw e)
    path 0 [] ps stand d

-- ---- catalogues

body_sound : (tables : List Table) (p : Proc) → proc_fits p ≡ true → IsWellTyped tables p → AllSound tables 0 p.body
body_sound tables p f typed = found (typed_proc tables p) refl typed where
  found : (r : Result Reached Flaw) → typed_proc tables p ≡ r → IsOk r → AllSound tables 0 p.body
  found (Ok next) e h = let fit : steps_fit p.body ≡ true = grind (arith, common_steps, f) in
      steps_sound (scope_of tables p) p.body (at_start p) next (omega arith) fit e
  found (Err flaw) e h = absurd (search (rules, h))

bodies_sound : (plan : Plan) → IsCatalog plan → All (λ p. AllSound plan.tables 0 p.body) plan.procs
bodies_sound plan c k p below = body_sound plan.tables (get_or plan.procs k p) (AllPass-from_list_all proc_fits plan.procs c.procs_fit k p below)
    (c.typed k p below)

pub plan_again : (plan : Plan) → IsCatalog plan → list_all (λ p. steps_held p.body) plan.procs ≡ true → plan_of (data_of plan) ≡ Ok plan
plan_again plan c h =
    let stand : All (Stands plan.tables) plan.procs = λ k p below.
    let fits = AllPass-from_list_all proc_fits plan.procs c.procs_fit k p below in
    let fit : steps_fit (get_or plan.procs k p).body ≡ true = grind (arith, common_steps, fits) in
    record {
      fits = fits;
      body = record {
        fits = fit;
        held = AllPass-from_list_all (λ p. steps_held p.body) plan.procs h k p below;
        known =
            (bodies_sound plan c k p below).known;
      };
    } in
    let tb : is_between 0 MOST_TABLES (length plan.tables) ≡ true = grind (arith, common_steps, c.few_tables) in
    let pb : is_between 0 MOST_PROCS (length plan.procs) ≡ true = grind (arith, common_steps, c.few_procs) in
    let it = items_again table_data 0 MOST_TABLES plan.tables tb in
    let ip = items_again (proc_data plan.tables) 0 MOST_PROCS plan.procs pb in
    let et = tables_again (in_member [] Tables) plan.tables c.tables_fit c.table_names in
    let ep = procs_again plan.tables c.table_names (in_member [] Procs) plan.procs stand c.proc_names in
    rw (it, et, ip, ep)

-- ---- how deep it nests

names_nest : {A : Type 0} (name : A → List ℕ) (xs : List A) → json.items_depth (items_of (map (λ x. string (name x)) xs)) ≤ 0
names_nest name xs = all_nest (λ x. string (name x)) 0 xs (λ k x below. omega arith)

table_nests : (t : Table) → json.depth (table_data t) ≤ 2
table_nests t = omega (arith, names_nest kind_name t.key, names_nest kind_name t.cols)

proc_nests : (tables : List Table) (p : Proc) → AllSound tables 0 p.body → json.depth (proc_data tables p) ≤ 28
proc_nests tables p sound = omega (arith, names_nest arg_kind_name p.args, names_nest kind_name p.regs, sound.nests)

pub plan_nests : (plan : Plan) → IsCatalog plan → json.depth (data_of plan) ≤ 127
plan_nests plan c =
    let tables = all_nest table_data 2 plan.tables (λ k t below. table_nests (get_or plan.tables k t)) in
    let procs = all_nest (proc_data plan.tables) 28 plan.procs (λ k p below. proc_nests plan.tables (get_or plan.procs k p) (bodies_sound plan c k p below)) in
    omega (arith, tables, procs)
