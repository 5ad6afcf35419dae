use Rattle.std.proofs.Common.{arith}
use Rattle.store_files.proofs.Syncs.{sync_leaves, sync_then, all_settled, reads_then}
use Rattle.store_files.proofs.creations.sync_all.Goals as goal

pub returns-in_err-sync_one-clause-images : goal.returns-in_err-sync_one-clause-images
returns-in_err-sync_one-clause-images g c =
    sync_leaves (g.D.Disk.history c.args.disk.now) (g.D.Disk.history c.sync_one.new.disk) 0 (omega arith) c.sync_one.ensures.images

pub returns-in_err-sync_one-2-clause-images : goal.returns-in_err-sync_one-2-clause-images
returns-in_err-sync_one-2-clause-images g c =
    sync_then (g.D.Disk.history c.args.disk.now) (g.D.Disk.history c.sync_one.new.disk) (g.D.Disk.history c.sync_one-2.new.disk)
    (sync_leaves (g.D.Disk.history c.args.disk.now) (g.D.Disk.history c.sync_one.new.disk) 0 (omega arith) c.sync_one.ensures.images)
    (sync_leaves (g.D.Disk.history c.sync_one.new.disk) (g.D.Disk.history c.sync_one-2.new.disk) 1 (omega arith) c.sync_one-2.ensures.images)

pub returns-in_err-sync_one-3-clause-images : goal.returns-in_err-sync_one-3-clause-images
returns-in_err-sync_one-3-clause-images g c =
    sync_then (g.D.Disk.history c.args.disk.now) (g.D.Disk.history c.sync_one-2.new.disk) (g.D.Disk.history c.sync_one-3.new.disk)
    (sync_then (g.D.Disk.history c.args.disk.now) (g.D.Disk.history c.sync_one.new.disk) (g.D.Disk.history c.sync_one-2.new.disk)
    (sync_leaves (g.D.Disk.history c.args.disk.now) (g.D.Disk.history c.sync_one.new.disk) 0 (omega arith) c.sync_one.ensures.images)
    (sync_leaves (g.D.Disk.history c.sync_one.new.disk) (g.D.Disk.history c.sync_one-2.new.disk) 1 (omega arith) c.sync_one-2.ensures.images))
    (sync_leaves (g.D.Disk.history c.sync_one-2.new.disk) (g.D.Disk.history c.sync_one-3.new.disk) 2 (omega arith) c.sync_one-3.ensures.images)

pub returns-in_err-sync_one-4-clause-images : goal.returns-in_err-sync_one-4-clause-images
returns-in_err-sync_one-4-clause-images g c =
    sync_then (g.D.Disk.history c.args.disk.now) (g.D.Disk.history c.sync_one-3.new.disk) (g.D.Disk.history c.sync_one-4.new.disk)
    (sync_then (g.D.Disk.history c.args.disk.now) (g.D.Disk.history c.sync_one-2.new.disk) (g.D.Disk.history c.sync_one-3.new.disk)
    (sync_then (g.D.Disk.history c.args.disk.now) (g.D.Disk.history c.sync_one.new.disk) (g.D.Disk.history c.sync_one-2.new.disk)
    (sync_leaves (g.D.Disk.history c.args.disk.now) (g.D.Disk.history c.sync_one.new.disk) 0 (omega arith) c.sync_one.ensures.images)
    (sync_leaves (g.D.Disk.history c.sync_one.new.disk) (g.D.Disk.history c.sync_one-2.new.disk) 1 (omega arith) c.sync_one-2.ensures.images))
    (sync_leaves (g.D.Disk.history c.sync_one-2.new.disk) (g.D.Disk.history c.sync_one-3.new.disk) 2 (omega arith) c.sync_one-3.ensures.images))
    (sync_leaves (g.D.Disk.history c.sync_one-3.new.disk) (g.D.Disk.history c.sync_one-4.new.disk) 3 (omega arith) c.sync_one-4.ensures.images)

pub returns-clause-images : goal.returns-clause-images
returns-clause-images g c =
    sync_then (g.D.Disk.history c.args.disk.now) (g.D.Disk.history c.sync_one-3.new.disk) (g.D.Disk.history c.sync_one-4.new.disk)
    (sync_then (g.D.Disk.history c.args.disk.now) (g.D.Disk.history c.sync_one-2.new.disk) (g.D.Disk.history c.sync_one-3.new.disk)
    (sync_then (g.D.Disk.history c.args.disk.now) (g.D.Disk.history c.sync_one.new.disk) (g.D.Disk.history c.sync_one-2.new.disk)
    (sync_leaves (g.D.Disk.history c.args.disk.now) (g.D.Disk.history c.sync_one.new.disk) 0 (omega arith) c.sync_one.ensures.images)
    (sync_leaves (g.D.Disk.history c.sync_one.new.disk) (g.D.Disk.history c.sync_one-2.new.disk) 1 (omega arith) c.sync_one-2.ensures.images))
    (sync_leaves (g.D.Disk.history c.sync_one-2.new.disk) (g.D.Disk.history c.sync_one-3.new.disk) 2 (omega arith) c.sync_one-3.ensures.images))
    (sync_leaves (g.D.Disk.history c.sync_one-3.new.disk) (g.D.Disk.history c.sync_one-4.new.disk) 3 (omega arith) c.sync_one-4.ensures.images)

pub returns-clause-settled : goal.returns-clause-settled
returns-clause-settled g c =
    all_settled (g.D.Disk.history c.args.disk.now) (g.D.Disk.history c.sync_one.new.disk) (g.D.Disk.history c.sync_one-2.new.disk)
    (g.D.Disk.history c.sync_one-3.new.disk) (g.D.Disk.history c.sync_one-4.new.disk) _ _ _ _ c.sync_one.ensures.images c.sync_one-2.ensures.images
    c.sync_one-3.ensures.images c.sync_one-4.ensures.images c.in_ok-sync_one.ensures.stable c.in_ok-sync_one-2.ensures.stable
    c.in_ok-sync_one-3.ensures.stable c.in_ok-sync_one-4.ensures.stable

pub returns-in_err-sync_one-2-clause-reads : goal.returns-in_err-sync_one-2-clause-reads
returns-in_err-sync_one-2-clause-reads g c =
    reads_then (g.D.Disk.history c.args.disk.now) (g.D.Disk.history c.sync_one.new.disk) (g.D.Disk.history c.sync_one-2.new.disk)
    (c.sync_one.ensures.reads) c.sync_one-2.ensures.reads

pub returns-in_err-sync_one-3-clause-reads : goal.returns-in_err-sync_one-3-clause-reads
returns-in_err-sync_one-3-clause-reads g c =
    reads_then (g.D.Disk.history c.args.disk.now) (g.D.Disk.history c.sync_one-2.new.disk) (g.D.Disk.history c.sync_one-3.new.disk)
    (reads_then (g.D.Disk.history c.args.disk.now) (g.D.Disk.history c.sync_one.new.disk) (g.D.Disk.history c.sync_one-2.new.disk)
    (c.sync_one.ensures.reads) c.sync_one-2.ensures.reads) c.sync_one-3.ensures.reads

pub returns-in_err-sync_one-4-clause-reads : goal.returns-in_err-sync_one-4-clause-reads
returns-in_err-sync_one-4-clause-reads g c =
    reads_then (g.D.Disk.history c.args.disk.now) (g.D.Disk.history c.sync_one-3.new.disk) (g.D.Disk.history c.sync_one-4.new.disk)
    (reads_then (g.D.Disk.history c.args.disk.now) (g.D.Disk.history c.sync_one-2.new.disk) (g.D.Disk.history c.sync_one-3.new.disk)
    (reads_then (g.D.Disk.history c.args.disk.now) (g.D.Disk.history c.sync_one.new.disk) (g.D.Disk.history c.sync_one-2.new.disk)
    (c.sync_one.ensures.reads) c.sync_one-2.ensures.reads) c.sync_one-3.ensures.reads) c.sync_one-4.ensures.reads

pub returns-clause-reads : goal.returns-clause-reads
returns-clause-reads g c =
    reads_then (g.D.Disk.history c.args.disk.now) (g.D.Disk.history c.sync_one-3.new.disk) (g.D.Disk.history c.sync_one-4.new.disk)
    (reads_then (g.D.Disk.history c.args.disk.now) (g.D.Disk.history c.sync_one-2.new.disk) (g.D.Disk.history c.sync_one-3.new.disk)
    (reads_then (g.D.Disk.history c.args.disk.now) (g.D.Disk.history c.sync_one.new.disk) (g.D.Disk.history c.sync_one-2.new.disk)
    (c.sync_one.ensures.reads) c.sync_one-2.ensures.reads) c.sync_one-3.ensures.reads) c.sync_one-4.ensures.reads
