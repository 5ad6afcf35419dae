use Rattle.std.proofs.Common.{rules}
use Rattle.store_files.proofs.Attaching.{still_leaves}
use Rattle.store_files.proofs.Syncs.{reads_then, still_reads}
use Rattle.aria_store.proofs.Attached.{take_refused, later_answer, told_on}
use Rattle.aria_store.proofs.stores.Store.attach.Goals as goal

pub returns-in_err-slot-clause-refused : goal.returns-in_err-slot-clause-refused
returns-in_err-slot-clause-refused g c =
    let cause = take_refused (g.D.Disk.history c.args.disk.now) (g.D.Disk.history c.take_slot.new.disk) c.in_err-slot.field-0.0 c.in_err-slot.ensures.refused in
    search rules

pub returns-clause-images : goal.returns-clause-images
returns-clause-images g c =
    still_leaves (g.D.Disk.history c.args.disk.now) (g.D.Disk.history c.take_slot.new.disk) (g.D.Disk.history c.of_slot.new.disk)
    c.take_slot.ensures.images c.of_slot.ensures.still

pub returns-clause-refused : goal.returns-clause-refused
returns-clause-refused g c =
    later_answer (g.D.Disk.history c.args.disk.now) (g.D.Disk.history c.take_slot.new.disk) (g.D.Disk.history c.of_slot.new.disk)
    c.take_slot.ensures.images.faults _ c.of_slot.ensures.refused

pub returns-clause-reads : goal.returns-clause-reads
returns-clause-reads g c =
    reads_then (g.D.Disk.history c.args.disk.now) (g.D.Disk.history c.take_slot.new.disk) (g.D.Disk.history c.of_slot.new.disk)
    c.take_slot.ensures.reads (still_reads (g.D.Disk.history c.take_slot.new.disk) (g.D.Disk.history c.of_slot.new.disk) c.of_slot.ensures.still)

pub returns-clause-told : goal.returns-clause-told
returns-clause-told g c =
    told_on (g.D.Disk.history c.args.disk.now) (g.D.Disk.history c.of_slot.new.disk)
    (reads_then (g.D.Disk.history c.args.disk.now) (g.D.Disk.history c.take_slot.new.disk) (g.D.Disk.history c.of_slot.new.disk)
    c.take_slot.ensures.reads (still_reads (g.D.Disk.history c.take_slot.new.disk) (g.D.Disk.history c.of_slot.new.disk) c.of_slot.ensures.still))

pub returns-in_err-slot-clause-told : goal.returns-in_err-slot-clause-told
returns-in_err-slot-clause-told g c =
    told_on (g.D.Disk.history c.args.disk.now) (g.D.Disk.history c.take_slot.new.disk) c.take_slot.ensures.reads
