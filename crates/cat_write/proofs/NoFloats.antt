-- A catalogue's JSON has no float.
use Rattle.std.proofs.Common.{◌≡◌, ℕ, pos, negsuc, List, [], ◌∷◌, map, false, refl}
use Rattle.aria_base.specs.declared.schemas.Table.{Table}
use Rattle.aria_base.specs.declared.values.Kind.{Kind}
use Rattle.serde_json.specs.Data.{Data, string}
use Rattle.serde_json.specs.Written.{has_float, items_have_float}
use Rattle.serde_json.specs.View.{items_of}
use Rattle.proc_lang.specs.declared.procs.ArgKind.{ArgKind}
use Rattle.proc_lang.specs.declared.procs.Proc.{Proc}
use Rattle.proc_lang.specs.Terms.{Term, Num, Text, Me, Named, Unary, Binary, MulDiv, Front}
use Rattle.proc_lang.specs.Steps.{Traps, Fails, Blanks, Step, Steps, NoMore, More}
use Rattle.proc_lang.specs.Steps as step
use Rattle.proc_lang.specs.Catalogs.{Plan}
use Rattle.cat_forms.specs.Names.{kind_name, arg_kind_name}
use Rattle.cat_forms.specs.Written.{term_data, terms_data, index_data, indexes_data, step_data, steps_data, table_data, proc_data, data_of}

-- none of them has a float
abbrev Plains : List Data → Type 0
Plains ds = items_have_float (items_of ds) ≡ false

more : (d : Data) (ds : List Data) → has_float d ≡ false → Plains ds → Plains (d ∷ ds)
more d ds h k = rw (h, k)

term_plain : (t : Term) → has_float (term_data t) ≡ false
term_plain (Num (pos n)) = refl
term_plain (Num (negsuc n)) = refl
term_plain (Text bytes) = refl
term_plain Me = refl
term_plain (Named from n) = refl
term_plain (Unary o a) = rw (term_plain a)
term_plain (Binary o a b) = rw (term_plain a, term_plain b)
term_plain (MulDiv a b c) = rw (term_plain a, term_plain b, term_plain c)
term_plain (Front a b n) = rw (term_plain a, term_plain b)

-- what each of a list is written as
all_plain : {A : Type 0} (f : A → Data) → ((x : A) → has_float (f x) ≡ false) → (xs : List A) → Plains (map f xs)
all_plain f each [] = refl
all_plain f each (x ∷ xs) = more (f x) (map f xs) (each x) (all_plain f each xs)

terms_plain : (ts : List Term) → has_float (terms_data ts) ≡ false
terms_plain ts = all_plain term_data term_plain ts

indexes_plain : (ns : List ℕ) → has_float (indexes_data ns) ≡ false
indexes_plain ns = all_plain index_data (λ n. refl) ns

mutual
  step_plain : (tables : List Table) (s : Step) → has_float (step_data tables s) ≡ false
  step_plain tables (step.Let r e) = rw (term_plain e)
  step_plain tables (step.Read Traps t ks rs) = rw (terms_plain ks, indexes_plain rs)
  step_plain tables (step.Read (Fails code) t ks rs) = rw (terms_plain ks, indexes_plain rs)
  step_plain tables (step.Read (Blanks flag) t ks rs) = rw (terms_plain ks, indexes_plain rs)
  step_plain tables (step.Put t ks es) = rw (terms_plain ks, terms_plain es)
  step_plain tables (step.Del t ks) = rw (terms_plain ks)
  step_plain tables (step.If e a b) = rw (term_plain e, steps_plain tables a, steps_plain tables b)
  step_plain tables (step.Each n body) = rw (steps_plain tables body)
  step_plain tables (step.Give e) = rw (term_plain e)
  step_plain tables (step.Fail code) = refl

  steps_plain : (tables : List Table) (ss : Steps) → Plains (steps_data tables ss)
  steps_plain tables NoMore = refl
  steps_plain tables (More s rest) = more (step_data tables s) (steps_data tables rest) (step_plain tables s) (steps_plain tables rest)

kinds_plain : (ks : List Kind) → Plains (map (λ k. string (kind_name k)) ks)
kinds_plain ks = all_plain (λ k. string (kind_name k)) (λ k. refl) ks

arg_kinds_plain : (ks : List ArgKind) → Plains (map (λ k. string (arg_kind_name k)) ks)
arg_kinds_plain ks = all_plain (λ k. string (arg_kind_name k)) (λ k. refl) ks

table_plain : (t : Table) → has_float (table_data t) ≡ false
table_plain t = rw (kinds_plain t.cols, kinds_plain t.key)

proc_plain : (tables : List Table) (p : Proc) → has_float (proc_data tables p) ≡ false
proc_plain tables p = rw (arg_kinds_plain p.args, steps_plain tables p.body, kinds_plain p.regs)

pub plan_plain : (plan : Plan) → has_float (data_of plan) ≡ false
plan_plain plan = rw (all_plain (proc_data plan.tables) (proc_plain plan.tables) plan.procs, all_plain table_data table_plain plan.tables)
