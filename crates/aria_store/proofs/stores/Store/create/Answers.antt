use Rattle.std.proofs.Common.{rules, ◌≡◌, ◌≤◌, ◌∙◌, ℕ, List, [], true, None, sym, ap, subst, arith}
use Rattle.aria_base.specs.declared.limits.TheConstants.{GREATEST_NUMBER}
use Rattle.aria_base.specs.declared.calls.Request.{Request}
use Rattle.proc_lang.specs.Catalogs.{takes}
use Rattle.slot_images.specs.Images.{IsBodyFor}
use Rattle.slot_images.specs.Said.{head_in, checkpoint_in}
use Rattle.checkpoint.specs.declared.heads.Head.{Head}
use Rattle.input_log.specs.Layout.{Ends}
use Rattle.store_files.specs.Attachments.{as_store}
use Rattle.store_files.specs.Holdings.{Holds}
use Rattle.aria_store.specs.Causes.{CreateCause}
use Rattle.aria_store.proofs.Written.{no_gate, create_refused, create_stands, none_fit, none_carried}
use Rattle.aria_store.proofs.stores.Store.create.Goals as goal

pub body_for-requires-clause-calls : goal.body_for-requires-clause-calls
body_for-requires-clause-calls g c =
    none_fit (λ (r : Request). takes c.args.image.now.catalog r.call ≡ true) _ (c.as_slice.ensures.value ∙ c.requires.held)

pub returns-in_err-files-clause-unwritten : goal.returns-in_err-files-clause-unwritten
returns-in_err-files-clause-unwritten g c off gate = absurd (no_gate (g.D.Disk.history c.args.disk.now) (c.in_ok-may_write.ensures.free off) gate)

pub returns-in_err-files-clause-refused : goal.returns-in_err-files-clause-refused
returns-in_err-files-clause-refused g c =
    let a = g.D.Disk.history c.args.disk.now in
    let z = g.D.Disk.history c.create.new.disk in
    let cause : CreateCause a z c.args.over (as_store c.in_err-files.field-0.0) =
    create_refused a (g.D.Disk.history c.may_write.new.disk) z c.args.over c.in_err-files.field-0.0 c.may_write.ensures.still.faults
    c.in_err-files.ensures.refused in
    search rules

pub returns-clause-unwritten : goal.returns-clause-unwritten
returns-clause-unwritten g c off gate = absurd (no_gate (g.D.Disk.history c.args.disk.now) (c.in_ok-may_write.ensures.free off) gate)

pub returns-clause-stands : goal.returns-clause-stands
returns-clause-stands g c =
    let image = checkpoint_in c.args.image.now in
    let none : c.as_slice.result.now ≡ [] = c.as_slice.ensures.value ∙ c.requires.held in
    let few : c.args.image.now.requests ≤ GREATEST_NUMBER = omega (arith, c.requires.requests) in
    let said = c.in_ok-body.ensures.body (head_in c.args.image.now) few (none_carried (head_in c.args.image.now) c.as_slice.result.now none) in
    let held = subst (λ (l : List Request). IsBodyFor image.head c.in_ok-body.body.items (image.plan, image.rows, l)) c.as_slice.ensures.value said in
    let text = subst (λ (l : List ℕ). IsBodyFor image.head l (image.plan, image.rows, image.held)) (sym c.deref.ensures.value) held in
    let files : c.in_ok-files.files ≡ record { head = head_in c.args.image.now; at = 0; batches = 0; closed = None } =
    c.in_ok-files.ensures.files ∙ ap (λ (h : Head). record { head = h; at = 0; batches = 0; closed = None }) c.head.ensures in
    let holds = subst (λ (h : Head). Holds (g.D.Disk.history c.create.new.disk) 1 h c.deref.result.now (Ends [] 0)) c.head.ensures
    c.in_ok-files.ensures.holds in
    create_stands (g.D.Disk.history c.create.new.disk) c.in_ok-files.files image c.deref.result.now files c.requires.generation text holds
