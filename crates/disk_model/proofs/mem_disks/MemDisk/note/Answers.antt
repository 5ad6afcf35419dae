use Rattle.disk_model.proofs.Moments.{disk_noted}
use Rattle.disk_model.proofs.mem_disks.MemDisk.note.Goals as goal

pub invariant_of-self : goal.invariant_of-self
invariant_of-self c = rw c.note.ensures (disk_noted _ _ _ _ c.self.invariant c.requires.quiet)
