use Rattle.std.proofs.Common.{refl, arith}
use Rattle.disk_model.specs.Steps.{Idle, Synced}
use Rattle.disk_model.proofs.Moments.{more_acts, now_synced, refused_acts, refused_idle}
use Rattle.disk_model.proofs.mem_disks.MemDiskDisk.sync.Goals as goal

pub returns-then-passes-clause-acts : goal.returns-then-passes-clause-acts
returns-then-passes-clause-acts c = rw c.note.ensures (more_acts c.args.self.now (Synced c.args.file) c.args.self.now.faults c.args.file refl (omega arith))

pub returns-then-passes-clause-settled : goal.returns-then-passes-clause-settled
returns-then-passes-clause-settled c = rw c.note.ensures (now_synced c.args.self.now c.args.file c.args.self.now.faults)

pub returns-clause-acts : goal.returns-clause-acts
returns-clause-acts c =
    let faults = rw c.refuse.ensures.refused at c.refuse.ensures.faults in
    rw c.refuse.ensures.refused (refused_acts c.args.self.now Idle c.args.file tt faults)

pub returns-clause-same : goal.returns-clause-same
returns-clause-same c = rw c.refuse.ensures.refused (refused_idle c.args.self.now c.args.file)
