use Rattle.std.proofs.Common.{Some, sym, subst}
use Rattle.serde_json.specs.Data.{Items}
use Rattle.proc_lang.specs.TermOf.{term_of}
use Rattle.cat_forms.specs.TermWalks.{form_at}
use Rattle.cat_read.specs.Places.{path_of}
use Rattle.cat_read.specs.Faults.{Reads}
use Rattle.cat_read.proofs.FaultReads.{reads_fault}
use Rattle.cat_read.proofs.Forms.{too_many}
use Rattle.cat_read.proofs.Operands.{two_items, three_items}
use Rattle.cat_read.proofs.terms.+reading.Goals as goal

pub read_form-returns-in-len2 : goal.read_form-returns-in-len2
read_form-returns-in-len2 t c =
    let e = two_items c.args.operands.now c.x-item-then-operands-lt3.result c.y-item.result c.in-len2.len_at_least c.in-len2.len_below
    c.x-item-then-operands-lt3.is c.y-item.is in
    subst (λ (ds : Items). Reads term_of c.read_two.result (form_at (path_of c.args.place.now) c.args.level (Some c.args.form) ds)) (sym e) c.read_two.ensures

pub read_form-returns-in-len3 : goal.read_form-returns-in-len3
read_form-returns-in-len3 t c =
    let e = three_items c.args.operands.now c.x-item-then-operands-lt4.result c.y-item-then-operands-lt4.result c.z-item.result c.in-len3.len_at_least
    c.in-len3.len_below c.x-item-then-operands-lt4.is c.y-item-then-operands-lt4.is c.z-item.is in
    subst (λ (ds : Items). Reads term_of c.read_three.result (form_at (path_of c.args.place.now) c.args.level (Some c.args.form) ds))
    (sym e) c.read_three.ensures

pub read_form-returns-in_default : goal.read_form-returns-in_default
read_form-returns-in_default t c = reads_fault term_of (path_of c.args.place.now) c.fault_at.result _ c.fault_at.ensures
    (too_many (path_of c.args.place.now) c.args.level c.args.form c.args.operands.now c.in_default.len_at_least)
