use Rattle.store_files.proofs.Attaching.{still_leaves}
use Rattle.store_files.proofs.Syncs.{reads_then, still_reads}
use Rattle.store_files.proofs.attachments.take_slot.Goals as goal

pub returns-clause-images : goal.returns-clause-images
returns-clause-images g c =
    still_leaves (g.D.Disk.history c.args.disk.now) (g.D.Disk.history c.sync_all.new.disk) (g.D.Disk.history c.choose.new.disk)
    c.sync_all.ensures.images c.choose.ensures.still

pub returns-clause-reads : goal.returns-clause-reads
returns-clause-reads g c =
    reads_then (g.D.Disk.history c.args.disk.now) (g.D.Disk.history c.sync_all.new.disk) (g.D.Disk.history c.choose.new.disk)
    c.sync_all.ensures.reads (still_reads (g.D.Disk.history c.sync_all.new.disk) (g.D.Disk.history c.choose.new.disk) c.choose.ensures.still)
