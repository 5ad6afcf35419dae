use Rattle.std.proofs.Common.{rules, ◌≡◌, ◌≤◌, ◌-◌, true, Option, None, Some, take, refl, subst, ◌∙◌}
use Rattle.std.specs.Prelude.{IfSome}
use Rattle.disk_model.specs.Files.{File}
use Rattle.disk_model.specs.Histories.{current}
use Rattle.checkpoint.specs.Heads.{fields_of}
use Rattle.checkpoint.specs.Damage.{faults, first_fault}
use Rattle.checkpoint.specs.Slots.{is_open}
use Rattle.disk_model.proofs.Spans.{still_now, still_then, still_call}
use Rattle.checkpoint.proofs.Looking.{looks_wrong, looks_cut, looks_shown}
use Rattle.checkpoint.proofs.Showing.{sound_head}
use Rattle.checkpoint.proofs.readings.look.Goals as goal

pub returns-in-Some-clause-refused : goal.returns-in-Some-clause-refused
returns-in-Some-clause-refused g c =
    let told = current (g.D.Disk.history c.args.disk.now) c.args.slot in
    let first = c.len.ensures.same in
    let second = still_now _ _ c.gate_open.ensures.still c.args.slot ∙ first in
    let gate = subst (λ (t : Option File). IfSome t (λ f. c.in_ok-gate_open.field-0 ≡ is_open f.seen)) first c.in_ok-gate_open.ensures.open in
    let opens : c.in_ok-gate_open.field-0 ≡ true = search rules in
    let long : 40 ≤ c.in_ok-len.len = search rules in
    let read = subst (λ (t : Option File). IfSome t (λ f. c.in_ok-fields.fields ≡ fields_of (take 40 f.seen))) second c.in_ok-fields.ensures.fields in
    let wrong : first_fault (faults c.args.slot c.in_ok-fields.fields) ≡ Some c.in-Some.at = search rules in (
      refl,
      looks_wrong c.args.slot told c.in_ok-gate_open.field-0 opens gate c.in_ok-len.len c.in_ok-len.ensures.length long c.in_ok-fields.fields read
          c.in-Some.at wrong,
    )

pub returns-then-len-fields-clause-refused : goal.returns-then-len-fields-clause-refused
returns-then-len-fields-clause-refused g c =
    let told = current (g.D.Disk.history c.args.disk.now) c.args.slot in
    let first = c.len.ensures.same in
    let second = still_now _ _ c.gate_open.ensures.still c.args.slot ∙ first in
    let gate = subst (λ (t : Option File). IfSome t (λ f. c.in_ok-gate_open.field-0 ≡ is_open f.seen)) first c.in_ok-gate_open.ensures.open in
    let opens : c.in_ok-gate_open.field-0 ≡ true = search rules in
    let long : 40 ≤ c.in_ok-len.len = search rules in
    let read = subst (λ (t : Option File). IfSome t (λ f. c.in_ok-fields.fields ≡ fields_of (take 40 f.seen))) second c.in_ok-fields.ensures.fields in
    let sound : first_fault (faults c.args.slot c.in_ok-fields.fields) ≡ None = search rules in (
      refl,
      looks_cut c.args.slot told c.in_ok-gate_open.field-0 opens gate c.in_ok-len.len c.in_ok-len.ensures.length long c.in_ok-fields.fields read sound
          c.if-len-fields.true,
    )

pub returns-clause-slot : goal.returns-clause-slot
returns-clause-slot g c =
    let told = current (g.D.Disk.history c.args.disk.now) c.args.slot in
    let first = c.len.ensures.same in
    let second = still_now _ _ c.gate_open.ensures.still c.args.slot ∙ first in
    let gate = subst (λ (t : Option File). IfSome t (λ f. c.in_ok-gate_open.field-0 ≡ is_open f.seen)) first c.in_ok-gate_open.ensures.open in
    let opens : c.in_ok-gate_open.field-0 ≡ true = search rules in
    let long : 40 ≤ c.in_ok-len.len = search rules in
    let read = subst (λ (t : Option File). IfSome t (λ f. c.in_ok-fields.fields ≡ fields_of (take 40 f.seen))) second c.in_ok-fields.ensures.fields in
    let sound : first_fault (faults c.args.slot c.in_ok-fields.fields) ≡ None = search rules in
    let fits : c.in_ok-fields.fields.body ≤ c.in_ok-len.len - 40 = search rules in
    looks_shown c.args.slot told c.in_ok-gate_open.field-0 opens gate c.in_ok-len.len c.in_ok-len.ensures.length long c.in_ok-fields.fields read sound fits
    c.head.result c.in_ok-fields.fields.body (c.head.ensures) refl

pub returns-clause-sound : goal.returns-clause-sound
returns-clause-sound g c =
    let sound : first_fault (faults c.args.slot c.in_ok-fields.fields) ≡ None = search rules in
    sound_head c.args.slot c.in_ok-fields.fields sound c.head.result c.head.ensures

pub returns-in-Some-clause-still : goal.returns-in-Some-clause-still
returns-in-Some-clause-still g c = still_then _ _ _ (still_then _ _ _ (still_call _ _ _ c.len.ensures.acts c.len.ensures.same) c.gate_open.ensures.still)
    c.read_fields.ensures.still

pub returns-then-len-fields-clause-still : goal.returns-then-len-fields-clause-still
returns-then-len-fields-clause-still g c = still_then _ _ _
    (still_then _ _ _ (still_call _ _ _ c.len.ensures.acts c.len.ensures.same) c.gate_open.ensures.still) c.read_fields.ensures.still
