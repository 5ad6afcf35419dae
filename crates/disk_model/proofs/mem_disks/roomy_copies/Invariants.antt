use Rattle.disk_model.specs.Recorded.{AreCopies}
use Rattle.disk_model.proofs.mem_disks.roomy_copies.Given as goal

abbrev pub invariant-loop-file : goal.invariant-loop-file
invariant-loop-file l = AreCopies l.files l.room l.copies.items l.file-index
