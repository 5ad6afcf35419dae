use Rattle.disk_model.proofs.Moments.{disk_noted}
use Rattle.disk_model.proofs.mem_disks.MemDisk.refuse.Goals as goal

pub invariant_of-self-2 : goal.invariant_of-self-2
invariant_of-self-2 c = rw c.note.ensures (disk_noted _ _ _ _ c.self.invariant c.requires.quiet)
