use Rattle.std.proofs.Common.{rules}
use Rattle.disk_model.proofs.Spans.{still_then}
use Rattle.store_files.specs.Attachments.{as_store, TakeCause}
use Rattle.store_files.proofs.Attaching.{first_cause, second_cause}
use Rattle.store_files.proofs.attachments.heads.Goals as goal

pub returns-in_err-first-clause-refused : goal.returns-in_err-first-clause-refused
returns-in_err-first-clause-refused g c =
    let a = g.D.Disk.history c.args.disk.now in
    let b = g.D.Disk.history c.head_of.new.disk in
    let cause : TakeCause a b (as_store c.in_err-first.field-0.0) =
    first_cause a c.requires b c.head_of.ensures.still c.in_err-first.field-0.0 c.in_err-first.ensures.refused in
    search rules

pub returns-in_err-second-clause-refused : goal.returns-in_err-second-clause-refused
returns-in_err-second-clause-refused g c =
    let a = g.D.Disk.history c.args.disk.now in
    let b = g.D.Disk.history c.head_of.new.disk in
    let z = g.D.Disk.history c.head_of-2.new.disk in
    let cause : TakeCause a z (as_store c.in_err-second.field-0.0) =
    second_cause a c.requires b z c.in_ok-first.first c.in_ok-first.ensures.head c.head_of.ensures.still
    (still_then a b z c.head_of.ensures.still c.head_of-2.ensures.still) c.in_err-second.field-0.0 c.in_err-second.ensures.refused in
    search rules
