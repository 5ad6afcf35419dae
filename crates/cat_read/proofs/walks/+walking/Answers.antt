use Rattle.std.proofs.Common.{◌≡◌, ◌≤◌, inl, inr, ℕ, Some, List, ◌∷◌, sym, subst, arith, rules}
use Rattle.std.specs.declared.result.Result.TheVariants.{Ok}
use Rattle.std.proofs.lemmas.Grind.{common_steps}
use denote.Param.Weighed.{most}
use Rattle.serde_json.specs.Data.{Items}
use Rattle.serde_json.specs.declared.value.Value.{Value}
use Rattle.serde_json.proofs.value.Value.TheLaws.{the_size}
use Rattle.proc_lang.specs.declared.statements.Stmt.{Stmt}
use Rattle.proc_lang.specs.Steps as step
use Rattle.proc_lang.specs.Syntax.{step_of}
use Rattle.proc_lang.specs.TermOf.{term_of}
use Rattle.cat_forms.specs.declared.names.Verb.TheVariants.{If, Each}
use Rattle.cat_forms.specs.StepWalks.{verb_at}
use Rattle.cat_read.specs.Places.{path_of}
use Rattle.cat_read.specs.Faults.{Reads}
use Rattle.cat_read.proofs.FaultReads.{reads_fault}
use Rattle.cat_read.proofs.Operands.{two_items, three_items, most_rest}
use Rattle.cat_read.proofs.Verbs.{other_than_three, other_than_two}
use Rattle.cat_read.proofs.walks.+walking.Goals as goal
use Rattle.cat_read.proofs.walks.+walking.Goals.{read_each-in_default-via-then-operands-lt2, read_each-in_default-via-else-operands-lt2+else-operands-lt3, read_if-in_default-via-then-operands-lt3, read_if-in_default-via-else-operands-lt3+else-operands-lt4}

pub read_statement-read_verb-requires : goal.read_statement-read_verb-requires
read_statement-read_verb-requires t c =
    let e : c.args.items.now.items ≡ c.in-Some.name.now ∷ c.in-Some.operands.now = search rules in
    let h : most the_size c.in-Some.operands.now ≤ most the_size c.args.items.now.items =
    subst (λ (vs : List Value). most the_size c.in-Some.operands.now ≤ most the_size vs) (sym e) (most_rest c.in-Some.name.now c.in-Some.operands.now) in
    (omega (arith, h), tt)

pub read_each-returns-in_default : goal.read_each-returns-in_default
read_each-returns-in_default t c = reads_fault (λ (s : Stmt × ℕ). (step_of s.0, s.1)) (path_of c.args.place.now) c.fault_at.result _ c.fault_at.ensures
    (other_than_two c.args.walk.now.tables.now (path_of c.args.walk.now.body.now) (path_of c.args.place.now) c.args.seen c.args.operands.now
    (elim c.in_default.branch [
      | read_each-in_default-via-then-operands-lt2 w ↦ inl (grind (arith, common_steps))
      | read_each-in_default-via-else-operands-lt2+else-operands-lt3 w ↦ inr (grind (arith, common_steps))
    ]))

pub read_each-returns-in_err-block : goal.read_each-returns-in_err-block
read_each-returns-in_err-block t c =
    let e = two_items c.args.operands.now c.list-item.result c.block-item.result c.in-len2.len_at_least c.in-len2.len_below c.list-item.is c.block-item.is in
    subst (λ (ds : Items). Reads (λ s. (step_of s.0, s.1)) c.from_residual.result
    (verb_at c.args.walk.now.tables.now (path_of c.args.walk.now.body.now) (path_of c.args.place.now) c.args.seen (Some Each) ds)) (sym e) (search rules)

pub read_each-returns : goal.read_each-returns
read_each-returns t c =
    let e = two_items c.args.operands.now c.list-item.result c.block-item.result c.in-len2.len_at_least c.in-len2.len_below c.list-item.is c.block-item.is in
    subst (λ (ds : Items). verb_at c.args.walk.now.tables.now (path_of c.args.walk.now.body.now) (path_of c.args.place.now) c.args.seen (Some Each) ds ≡ Ok
    (step.Each c.in-Some.list c.in_ok-block.block, c.in_ok-block.seen)) (sym e) (search rules)

pub read_if-returns-in_default : goal.read_if-returns-in_default
read_if-returns-in_default t c = reads_fault (λ (s : Stmt × ℕ). (step_of s.0, s.1)) (path_of c.args.place.now) c.fault_at.result _ c.fault_at.ensures
    (other_than_three c.args.walk.now.tables.now (path_of c.args.walk.now.body.now) (path_of c.args.place.now) c.args.seen c.args.operands.now
    (elim c.in_default.branch [
      | read_if-in_default-via-then-operands-lt3 w ↦ inl (grind (arith, common_steps))
      | read_if-in_default-via-else-operands-lt3+else-operands-lt4 w ↦ inr (grind (arith, common_steps))
    ]))

pub read_if-returns-in_err-first : goal.read_if-returns-in_err-first
read_if-returns-in_err-first t c =
    let e = three_items c.args.operands.now c.test-item.result c.first-item.result c.second-item.result c.in-len3.len_at_least c.in-len3.len_below
    c.test-item.is c.first-item.is c.second-item.is in
    subst (λ (ds : Items). Reads (λ s. (step_of s.0, s.1)) c.from_residual-in_err-first.result
    (verb_at c.args.walk.now.tables.now (path_of c.args.walk.now.body.now) (path_of c.args.place.now) c.args.seen (Some If) ds)) (sym e) (search rules)

pub read_if-returns-in_err-second : goal.read_if-returns-in_err-second
read_if-returns-in_err-second t c =
    let e = three_items c.args.operands.now c.test-item.result c.first-item.result c.second-item.result c.in-len3.len_at_least c.in-len3.len_below
    c.test-item.is c.first-item.is c.second-item.is in
    subst (λ (ds : Items). Reads (λ s. (step_of s.0, s.1)) c.from_residual-in_err-second.result
    (verb_at c.args.walk.now.tables.now (path_of c.args.walk.now.body.now) (path_of c.args.place.now) c.args.seen (Some If) ds)) (sym e) (search rules)

pub read_if-returns : goal.read_if-returns
read_if-returns t c =
    let e = three_items c.args.operands.now c.test-item.result c.first-item.result c.second-item.result c.in-len3.len_at_least c.in-len3.len_below
    c.test-item.is c.first-item.is c.second-item.is in
    subst (λ (ds : Items). verb_at c.args.walk.now.tables.now (path_of c.args.walk.now.body.now) (path_of c.args.place.now) c.args.seen (Some If) ds ≡ Ok
    (step.If (term_of c.into_inner.result) c.in_ok-first.first c.in_ok-second.second, c.in_ok-second.seen)) (sym e) (search rules)
