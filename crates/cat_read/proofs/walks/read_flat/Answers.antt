use Rattle.std.proofs.Common.{ℕ, Some, sym, subst, arith}
use Rattle.serde_json.specs.Data.{Items}
use Rattle.proc_lang.specs.Syntax.{step_of}
use Rattle.cat_forms.specs.StepWalks.{verb_at}
use Rattle.cat_read.specs.Places.{path_of}
use Rattle.cat_read.specs.Faults.{Reads}
use Rattle.cat_read.proofs.FaultReads.{reads_fault}
use Rattle.cat_read.proofs.Operands.{one_item, two_items, four_items}
use Rattle.cat_read.proofs.Verbs.{no_operand, many_operands}
use Rattle.cat_read.proofs.walks.read_flat.Goals as goal

pub returns-in-len1 : goal.returns-in-len1
returns-in-len1 c = λ (seen : ℕ).
    let e = one_item c.args.operands.now c.x-item.result c.in-len1.len_at_least c.in-len1.len_below c.x-item.is in
    subst (λ (ds : Items). Reads (λ s. (step_of s, seen)) c.read_one.result
    (verb_at c.args.walk.now.tables.now (path_of c.args.walk.now.body.now) (path_of c.args.place.now) seen (Some c.args.verb) ds)) (sym e)
    (c.read_one.ensures seen)

pub returns-in-len2 : goal.returns-in-len2
returns-in-len2 c = λ (seen : ℕ).
    let e = two_items c.args.operands.now c.x-item-then-operands-lt3.result c.y-item.result c.in-len2.len_at_least c.in-len2.len_below
    c.x-item-then-operands-lt3.is c.y-item.is in
    subst (λ (ds : Items). Reads (λ s. (step_of s, seen)) c.read_two.result
    (verb_at c.args.walk.now.tables.now (path_of c.args.walk.now.body.now) (path_of c.args.place.now) seen (Some c.args.verb) ds)) (sym e)
    (c.read_two.ensures seen)

pub returns-in-len4 : goal.returns-in-len4
returns-in-len4 c = λ (seen : ℕ).
    let e = four_items c.args.operands.now c.w-item.result c.x-item-then-operands-lt5.result c.y-item-then-operands-lt5.result
    c.z-item-then-operands-lt5.result c.in-len4.len_at_least c.in-len4.len_below c.w-item.is c.x-item-then-operands-lt5.is c.y-item-then-operands-lt5.is
    c.z-item-then-operands-lt5.is in
    subst (λ (ds : Items). Reads (λ s. (step_of s, seen)) c.read_four.result
    (verb_at c.args.walk.now.tables.now (path_of c.args.walk.now.body.now) (path_of c.args.place.now) seen (Some c.args.verb) ds)) (sym e)
    (c.read_four.ensures seen)

pub returns-in-empty : goal.returns-in-empty
returns-in-empty c = λ (seen : ℕ). reads_fault (λ s. (step_of s, seen)) (path_of c.args.place.now) c.fault_at.result _ c.fault_at.ensures
    (no_operand c.args.walk.now.tables.now (path_of c.args.walk.now.body.now) (path_of c.args.place.now) seen c.args.verb c.args.operands.now (omega arith))

pub returns-in_default : goal.returns-in_default
returns-in_default c = λ (seen : ℕ). reads_fault (λ s. (step_of s, seen)) (path_of c.args.place.now) c.fault_at-in_default.result _
    c.fault_at-in_default.ensures (many_operands c.args.walk.now.tables.now (path_of c.args.walk.now.body.now)
    (path_of c.args.place.now) seen c.args.verb c.args.operands.now (omega arith))
