use Rattle.std.proofs.Common.{length, refl, arith}
use Rattle.disk_model.specs.Steps.{Wrote, Missed}
use Rattle.disk_model.proofs.Moments.{more_acts, now_wrote, refused_acts, refused_loses}
use Rattle.disk_model.proofs.mem_disks.MemDiskDisk.write_at.Goals as goal

pub returns-then-not-passes-clause-acts : goal.returns-then-not-passes-clause-acts
returns-then-not-passes-clause-acts c = let faults = rw c.refuse.ensures.refused at c.refuse.ensures.faults in
    rw c.refuse.ensures.refused (refused_acts c.args.self.now (Missed c.args.file c.args.at (length c.args.bytes.now)) c.args.file refl faults)

pub returns-clause-acts : goal.returns-clause-acts
returns-clause-acts c = rw c.overwrite.ensures (more_acts c.args.self.now (Wrote c.args.file c.args.at c.args.bytes.now) c.args.self.now.faults c.args.file
    refl (omega arith))

pub returns-then-not-passes-clause-lost : goal.returns-then-not-passes-clause-lost
returns-then-not-passes-clause-lost c = rw c.refuse.ensures.refused (refused_loses c.args.self.now c.args.file c.args.at (length c.args.bytes.now))

pub returns-clause-written : goal.returns-clause-written
returns-clause-written c = rw c.overwrite.ensures (now_wrote c.args.self.now c.args.file c.args.at c.args.bytes.now c.args.self.now.faults)
