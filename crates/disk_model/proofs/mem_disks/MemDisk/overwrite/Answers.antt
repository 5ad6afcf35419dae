use Rattle.std.proofs.Common.{◌≤◌, ◌+◌, length, sym, subst}
use Rattle.std.proofs.lemmas.List.{get_or_read_under}
use Rattle.disk_model.specs.Contents.{RoomyBytes, no_bytes}
use Rattle.disk_model.proofs.Moments.{disk_wrote}
use Rattle.disk_model.proofs.mem_disks.MemDisk.overwrite.Goals as goal

pub invariant_of-self : goal.invariant_of-self
invariant_of-self c =
    let was = get_or_read_under _ _ 4 _ no_bytes c.index_mut.ensures.value c.requires.file (sym c.self.invariant.four) in
    let bytes = rw was at c.overwrite.ensures.bytes in
    let spare = subst (λ (r : RoomyBytes). r.spare ≤ c.overwrite.new.self.spare + length c.args.bytes.now) was c.overwrite.ensures.spare in
    rw c.note_write.ensures (disk_wrote _ _ _ _ _ _ _ c.self.invariant c.requires.file bytes spare)
