use Rattle.std.proofs.Common.{rules, ◌≤◌, ap, arith, None}
use Rattle.disk_model.specs.Causes.{FaultOnly}
use Rattle.input_log.specs.declared.logs.LogEnd.{LogEnd}
use Rattle.store_files.specs.Stores.{Stored}
use Rattle.store_files.proofs.Syncs.{fault_later, rests_created}
use Rattle.store_files.proofs.files.Files.create.Goals as goal

pub returns-in_err-end-clause-refused : goal.returns-in_err-end-clause-refused
returns-in_err-end-clause-refused g c =
    let a = g.D.Disk.history c.args.disk.now in
    let b = g.D.Disk.history c.sync_all.new.disk in
    let s = g.D.Disk.history c.shut_both.new.disk in
    let z = g.D.Disk.history c.put_first.new.disk in
    let first : a.faults ≤ b.faults = c.sync_all.ensures.images.faults in
    let second : b.faults ≤ s.faults = c.shut_both.ensures.faults in
    let cause : FaultOnly a z c.in_err-end.field-0.0 =
    fault_later a s z c.in_err-end.field-0.0 (omega (arith, first, second)) c.in_err-end.ensures.refused in
    search rules

pub returns-clause-rests : goal.returns-clause-rests
returns-clause-rests g c =
    let z = g.D.Disk.history c.put_first.new.disk in
    let s : Stored = record { head = c.args.head; at = c.in_ok-end.end.at; batches = c.in_ok-end.end.batches; closed = None } in
    rw c.known.ensures
    (rests_created z s c.args.body.now c.requires.generation c.in_ok-end.ensures.settled c.requires.sound c.in_ok-end.ensures.holds
    (ap (λ (e : LogEnd). e.at) c.in_ok-end.ensures.end) (ap (λ (e : LogEnd). e.batches) c.in_ok-end.ensures.end))
