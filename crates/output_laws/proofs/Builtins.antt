-- The texts of the catalogues that every database has are of printed bytes.
use Rattle.std.proofs.Common.{◌≡◌, ℕ, Bool, true, cond, List, [], ◌∷◌, Some, None, refl}
use Rattle.std.specs.Prelude.{◌&&◌, IfSome, codes}
use Rattle.std.specs.Str.{bytes_eq}
use Rattle.std.specs.List.{AllByRecursion, list_all}
use Rattle.std.proofs.lemmas.Bool.{and_parts}
use Rattle.aria_base.specs.declared.schemas.Table.{Table}
use Rattle.cat_builtin.specs.Bank.{bank}
use Rattle.cat_builtin.specs.Builtins.{builtin_named}
use Rattle.cat_builtin.specs.Tpcc.{tpcc}
use Rattle.cat_builtin.specs.Ycsb.{ycsb}
use Rattle.proc_lang.specs.Catalogs.{Plan}
use Rattle.proc_lang.specs.Steps.{Step, Steps, NoMore, More}
use Rattle.proc_lang.specs.Steps as step
use Rattle.proc_lang.specs.Terms.{Term}
use Rattle.proc_lang.specs.Terms as term
use Rattle.proc_lang.specs.declared.procs.Proc.{Proc}
use Rattle.script_text.specs.Forms.{is_printed}
use Rattle.output_laws.proofs.Items.{if_some}
use Rattle.output_laws.proofs.Runs.{PrintedPlan, PrintedStep, PrintedSteps}
use Rattle.output_laws.proofs.Texts.{Printed}
use Rattle.output_laws.proofs.Values.{PrintedTerm}

-- the same as tests, which compute

abbrev term_shown : Term → Bool
term_shown (term.Num z) = true
term_shown (term.Text bytes) = is_printed bytes
term_shown term.Me = true
term_shown (term.Named from n) = true
term_shown (term.Unary o a) = term_shown a
term_shown (term.Binary o a b) = term_shown a && term_shown b
term_shown (term.MulDiv a b c) = term_shown a && (term_shown b && term_shown c)
term_shown (term.Front a b n) = term_shown a && term_shown b

abbrev mutual
  step_shown : Step → Bool
  step_shown (step.Let n e) = term_shown e
  step_shown (step.Read absence t ks rs) = list_all term_shown ks
  step_shown (step.Put t ks es) = list_all term_shown ks && list_all term_shown es
  step_shown (step.Del t ks) = list_all term_shown ks
  step_shown (step.If e a b) = term_shown e && (steps_shown a && steps_shown b)
  step_shown (step.Each n body) = steps_shown body
  step_shown (step.Give e) = term_shown e
  step_shown (step.Fail code) = true

  steps_shown : Steps → Bool
  steps_shown NoMore = true
  steps_shown (More s rest) = step_shown s && steps_shown rest

abbrev plan_shown : Plan → Bool
plan_shown plan = list_all (λ (t : Table). is_printed t.name) plan.tables && list_all (λ (p : Proc). steps_shown p.body) plan.procs

term_is : (t : Term) → term_shown t ≡ true → PrintedTerm t
term_is (term.Num z) h = tt
term_is (term.Text bytes) h = h
term_is term.Me h = tt
term_is (term.Named from n) h = tt
term_is (term.Unary o a) h = term_is a h
term_is (term.Binary o a b) h = let parts = and_parts (term_shown a) (term_shown b) h in (term_is a parts.0, term_is b parts.1)
term_is (term.MulDiv a b c) h =
    let parts = and_parts (term_shown a) (term_shown b && term_shown c) h in
    let more = and_parts (term_shown b) (term_shown c) parts.1 in
    (term_is a parts.0, term_is b more.0, term_is c more.1)
term_is (term.Front a b n) h = let parts = and_parts (term_shown a) (term_shown b) h in (term_is a parts.0, term_is b parts.1)

all_are : {X : Type 0} (P : X → Type 0) (test : X → Bool) → ((x : X) → test x ≡ true → P x) → (xs : List X) → list_all test xs ≡ true → AllByRecursion P xs
all_are P test each [] h = tt
all_are P test each (x ∷ xs) h = let parts = and_parts (test x) (list_all test xs) h in (each x parts.0, all_are P test each xs parts.1)

terms_are : (ts : List Term) → list_all term_shown ts ≡ true → AllByRecursion PrintedTerm ts
terms_are = all_are PrintedTerm term_shown term_is

mutual
  step_is : (s : Step) → step_shown s ≡ true → PrintedStep s
  step_is (step.Let n e) h = term_is e h
  step_is (step.Read absence t ks rs) h = terms_are ks h
  step_is (step.Put t ks es) h = let parts = and_parts (list_all term_shown ks) (list_all term_shown es) h in (terms_are ks parts.0, terms_are es parts.1)
  step_is (step.Del t ks) h = terms_are ks h
  step_is (step.If e a b) h =
      let parts = and_parts (term_shown e) (steps_shown a && steps_shown b) h in
      let more = and_parts (steps_shown a) (steps_shown b) parts.1 in
      (term_is e parts.0, steps_are a more.0, steps_are b more.1)
  step_is (step.Each n body) h = steps_are body h
  step_is (step.Give e) h = term_is e h
  step_is (step.Fail code) h = tt

  steps_are : (b : Steps) → steps_shown b ≡ true → PrintedSteps b
  steps_are NoMore h = tt
  steps_are (More s rest) h = let parts = and_parts (step_shown s) (steps_shown rest) h in (step_is s parts.0, steps_are rest parts.1)

plan_is : (plan : Plan) → plan_shown plan ≡ true → PrintedPlan plan
plan_is plan h =
    let parts = and_parts (list_all (λ (t : Table). is_printed t.name) plan.tables) (list_all (λ (p : Proc). steps_shown p.body) plan.procs) h in
    record {
      tables = all_are (λ (t : Table). Printed t.name) (λ (t : Table). is_printed t.name) (λ t k. k) plan.tables parts.0;
      procs = all_are (λ (p : Proc). PrintedSteps p.body) (λ (p : Proc). steps_shown p.body) (λ p k. steps_are p.body k) plan.procs parts.1;
    }

bank_shown : plan_shown bank ≡ true
bank_shown = refl

ycsb_shown : plan_shown ycsb ≡ true
ycsb_shown = refl

tpcc_shown : plan_shown tpcc ≡ true
tpcc_shown = refl

pub builtin_printed : (name : List ℕ) → IfSome (builtin_named name) PrintedPlan
builtin_printed name =
    let tpccs = if_some PrintedPlan (bytes_eq name (codes "tpcc")) (Some tpcc) None (plan_is tpcc tpcc_shown) tt in
    let ycsbs = if_some PrintedPlan (bytes_eq name (codes "ycsb")) (Some ycsb) (cond (bytes_eq name (codes "tpcc")) (Some tpcc) None)
    (plan_is ycsb ycsb_shown) tpccs in
    if_some PrintedPlan (bytes_eq name (codes "bank")) (Some bank)
    (cond (bytes_eq name (codes "ycsb")) (Some ycsb) (cond (bytes_eq name (codes "tpcc")) (Some tpcc) None)) (plan_is bank bank_shown) ycsbs
