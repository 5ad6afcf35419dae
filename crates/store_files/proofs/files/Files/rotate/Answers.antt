use Rattle.std.proofs.Common.{◌≡◌, ◌⊎◌, ◌-◌, [], ℕ, List, subst, ap, arith}
use Rattle.input_log.specs.Layout.{Log, Ends}
use Rattle.input_log.specs.declared.logs.LogEnd.{LogEnd}
use Rattle.store_files.specs.Openings.{Taken, opened_of}
use Rattle.store_files.specs.Holdings.{Holds}
use Rattle.disk_model.specs.Histories.{LeavesAll}
use Rattle.store_files.specs.Stores.{Stored, slot_in, next_head}
use Rattle.store_files.proofs.Appends.{next_slot, rests_rotated}
use Rattle.store_files.proofs.files.Files.rotate.Goals as goal

pub returns-in-Ok-clause-images : goal.returns-in-Ok-clause-images
returns-in-Ok-clause-images g c none =
    let a = g.D.Disk.history c.args.disk.now in
    let z = g.D.Disk.history c.replace.new.disk in
    subst (λ (s : Stored). (b : List ℕ) (log : Log) → Holds a (slot_in s) s.head b log
    → LeavesAll a z (λ images. (opened_of images ≡ Taken (slot_in s) s.head b log)
    ⊎ (opened_of images ≡ Taken (1 - slot_in s) (next_head s.head c.args.rule c.args.fallback c.args.batches c.args.requests) c.args.body.now (Ends [] 0))))
    c.self.view_is (λ b log holds. c.replace.ensures.images c.self.inside.head b log holds (omega arith))

pub returns-in-Err-DiskFault-clause-images : goal.returns-in-Err-DiskFault-clause-images
returns-in-Err-DiskFault-clause-images g c none =
    let a = g.D.Disk.history c.args.disk.now in
    let z = g.D.Disk.history c.replace.new.disk in
    subst (λ (s : Stored). (b : List ℕ) (log : Log) → Holds a (slot_in s) s.head b log
    → LeavesAll a z (λ images. (opened_of images ≡ Taken (slot_in s) s.head b log)
    ⊎ (opened_of images ≡ Taken (1 - slot_in s) (next_head s.head c.args.rule c.args.fallback c.args.batches c.args.requests) c.args.body.now (Ends [] 0))))
    c.self.view_is (λ b log holds. c.replace.ensures.images c.self.inside.head b log holds (omega arith))

pub returns-in-Ok-clause-rests : goal.returns-in-Ok-clause-rests
returns-in-Ok-clause-rests g c =
    rests_rotated (g.D.Disk.history c.replace.new.disk) _ _ c.args.body.now (next_slot c.self.inside.head) c.in-Ok.ensures.settled c.in-Ok.ensures.sound
    c.in-Ok.ensures.holds
    (ap (λ (e : LogEnd). e.at) c.in-Ok.ensures.end) (ap (λ (e : LogEnd). e.batches) c.in-Ok.ensures.end)
