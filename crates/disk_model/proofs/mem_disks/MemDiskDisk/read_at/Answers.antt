use Rattle.std.proofs.Common.{arith}
use Rattle.disk_model.specs.Steps.{Idle}
use Rattle.disk_model.proofs.Moments.{more_acts, idle_stays, refused_acts, refused_idle}
use Rattle.disk_model.proofs.mem_disks.MemDiskDisk.read_at.Goals as goal

pub returns-then-not-passes-clause-acts : goal.returns-then-not-passes-clause-acts
returns-then-not-passes-clause-acts c = let faults = rw c.refuse.ensures.refused at c.refuse.ensures.faults in
    rw c.refuse.ensures.refused (refused_acts c.args.self.now Idle c.args.file tt faults)

pub returns-clause-acts : goal.returns-clause-acts
returns-clause-acts c = rw c.note.ensures (more_acts c.args.self.now (Idle) c.args.self.now.faults c.args.file tt (omega arith))

pub returns-then-not-passes-clause-same : goal.returns-then-not-passes-clause-same
returns-then-not-passes-clause-same c = rw c.refuse.ensures.refused (refused_idle c.args.self.now c.args.file)

pub returns-clause-same : goal.returns-clause-same
returns-clause-same c = rw c.note.ensures (idle_stays c.args.self.now c.args.self.now.faults c.args.file)
