use Rattle.std.proofs.Common.{rules, ◌≡◌, ◌+◌, List, sym, subst}
use Rattle.std.specs.Prelude.{IfSome}
use Rattle.disk_model.specs.Histories.{current}
use Rattle.input_log.specs.Layout.{Ends, log_of}
use Rattle.input_log.specs.declared.logs.Payload.{Payload}
use Rattle.store_files.specs.Attachments.{as_store}
use Rattle.slot_images.specs.Said.{checkpoint_in}
use Rattle.aria_store.specs.Causes.{LaterCause}
use Rattle.aria_store.specs.Records.{AreBatches}
use Rattle.aria_store.specs.Stands.{batches_in}
use Rattle.aria_store.proofs.Attached.{scan_refused, batches_refused}
use Rattle.aria_store.proofs.attachments.read_later.Goals as goal

pub returns-in_err-payloads-clause-refused : goal.returns-in_err-payloads-clause-refused
returns-in_err-payloads-clause-refused g c =
    let a = g.D.Disk.history c.args.disk.now in
    let z = g.D.Disk.history c.scan.new.disk in
    let it = checkpoint_in c.args.image.now in
    let cause : LaterCause it a z c.args.slot (as_store c.in_err-payloads.field-0.0) =
    scan_refused it a z c.args.slot c.in_err-payloads.field-0.0 c.in_err-payloads.ensures.refused in
    search rules

pub returns-in_err-later-clause-refused : goal.returns-in_err-later-clause-refused
returns-in_err-later-clause-refused g c =
    let a = g.D.Disk.history c.args.disk.now in
    let z = g.D.Disk.history c.scan.new.disk in
    let it = checkpoint_in c.args.image.now in
    let log = subst (λ (l : List Payload). IfSome (current a (2 + c.args.slot)) (λ f. log_of f.seen ≡ Ends l c.in_ok-payloads.end.at))
    (sym c.as_slice.ensures.value) c.in_ok-payloads.ensures.log in
    let cause : LaterCause it a z c.args.slot c.in_err-later.field-0.0 =
    batches_refused it a z c.args.slot c.as_slice.result.now c.in_ok-payloads.end.at c.in_err-later.field-0.0 log c.in_err-later.ensures.refused in
    search rules

pub returns-clause-later : goal.returns-clause-later
returns-clause-later g c =
    let it = checkpoint_in c.args.image.now in
    record {
      payloads = c.in_ok-payloads.payloads.items;
      log = c.in_ok-payloads.ensures.log;
      are = subst (λ (l : List Payload). AreBatches it it.head.batches it.head.requests l (batches_in c.in_ok-later.later.items)) c.as_slice.ensures.value
          c.in_ok-later.ensures.batches;
      many = c.in_ok-payloads.ensures.end.1;
    }
