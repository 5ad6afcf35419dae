use Rattle.std.proofs.Common.{sym, subst, arith, ℕ}
use Rattle.batch_core.specs.Steps.{State}
use Rattle.aria_store.specs.Reopens.{Found}
use Rattle.aria_store.specs.Stands.{batches_in}
use Rattle.serving.specs.Lives.{plan_of}
use Rattle.serving.specs.Stored.{stored_state}
use Rattle.slot_images.specs.Said.{checkpoint_in}
use Rattle.store_openings.specs.Openings.{opened}
use Rattle.store_openings.specs.Runs.{saved_by}
use Rattle.store_openings.specs.Saved.{HoldsSaved, renewed}
use Rattle.store_openings.proofs.Keeping.{err_more, ok_both, ok_more, unwritten_of}
use Rattle.store_openings.proofs.Readings.{attach_fault, attach_refusal, attached_leaves, attaching_of, found_fault, found_is, found_refusal, looked_then, opened_as, opened_leaves, reads_left, reads_on, told_all, unwritten_then}
use Rattle.store_openings.proofs.Savings.{by_files, fresh_is}
use Rattle.store_openings.proofs.openings.open.Goals as goal

pub not_attached-requires : goal.not_attached-requires
not_attached-requires g c =
    attaching_of (g.D.Disk.history c.args.disk.now) (g.D.Disk.history c.attach.new.disk) c.in-Err.refused c.in-Err.ensures.refused

pub returns-in-Err-clause-refused : goal.returns-in-Err-clause-refused
returns-in-Err-clause-refused g c images found reads reopens =
    let old = g.D.Disk.history c.args.disk.now in
    let mid = g.D.Disk.history c.attach.new.disk in
    attach_refusal mid images (reads_on old mid images c.attach.ensures.reads reads) (λ file. g.met.D.Disk.reads c.attach.new.disk mid.now file) old
    c.in-Err.refused c.not_attached.result found
    c.in-Err.ensures.refused c.not_attached.ensures reopens

pub returns-in-Err-clause-images : goal.returns-in-Err-clause-images
returns-in-Err-clause-images g c images found reads reopens =
    attached_leaves (g.D.Disk.history c.args.disk.now) (g.D.Disk.history c.attach.new.disk) (opened images found) c.attach.ensures.images

pub returns-in-Err-clause-unwritten : goal.returns-in-Err-clause-unwritten
returns-in-Err-clause-unwritten g c =
    unwritten_of (g.D.Disk.history c.args.disk.now) (g.D.Disk.history c.attach.new.disk) c.not_attached.result c.attach.ensures.images

pub returns-in-Err-clause-cause : goal.returns-in-Err-clause-cause
returns-in-Err-clause-cause g c =
    attach_fault (g.D.Disk.history c.args.disk.now) (g.D.Disk.history c.attach.new.disk) c.in-Err.refused c.not_attached.result c.in-Err.ensures.refused
    c.not_attached.ensures

pub returns-in-Ok-clause-opened : goal.returns-in-Ok-clause-opened
returns-in-Ok-clause-opened g c =
    let old = g.D.Disk.history c.args.disk.now in
    let mid = g.D.Disk.history c.attach.new.disk in
    let image = checkpoint_in c.in-Ok.found.image in
    let later = batches_in c.in-Ok.found.later.items in
    ok_more c.open_found.result (λ live f images found reads reopens.
    opened_as images c.args.engines.now image later found live f.found
    (found_is mid images (reads_on old mid images c.attach.ensures.reads reads) (λ file. g.met.D.Disk.reads c.attach.new.disk mid.now file) c.in-Ok.store image
    later found
    c.in-Ok.ensures.stands reopens)) c.open_found.ensures.opened

pub returns-in-Ok-clause-refused : goal.returns-in-Ok-clause-refused
returns-in-Ok-clause-refused g c =
    let old = g.D.Disk.history c.args.disk.now in
    let mid = g.D.Disk.history c.attach.new.disk in
    let new = g.D.Disk.history c.open_found.new.disk in
    let image = checkpoint_in c.in-Ok.found.image in
    let later = batches_in c.in-Ok.found.later.items in
    err_more c.open_found.result (λ why h images found reads reopens.
    let there = reads_on old mid images c.attach.ensures.reads reads in
    let law = λ (file : ℕ). g.met.D.Disk.reads c.attach.new.disk mid.now file in
    found_refusal mid new images there c.in-Ok.store image later found why
    (found_is mid images there law c.in-Ok.store image later found c.in-Ok.ensures.stands reopens) h) c.open_found.ensures.refused

pub returns-in-Ok-clause-runnable : goal.returns-in-Ok-clause-runnable
returns-in-Ok-clause-runnable g c = ok_more c.open_found.result (λ live f. f.found.runnable) c.open_found.ensures.opened

pub returns-in-Ok-clause-logging : goal.returns-in-Ok-clause-logging
returns-in-Ok-clause-logging g c = ok_more c.open_found.result (λ live f. f.logging) c.open_found.ensures.opened

pub returns-in-Ok-clause-stored : goal.returns-in-Ok-clause-stored
returns-in-Ok-clause-stored g c = ok_more c.open_found.result (λ live f. f.stored) c.open_found.ensures.opened

pub returns-in-Ok-clause-settings : goal.returns-in-Ok-clause-settings
returns-in-Ok-clause-settings g c = ok_more c.open_found.result (λ live f. f.settings) c.open_found.ensures.opened

pub returns-in-Ok-clause-each : goal.returns-in-Ok-clause-each
returns-in-Ok-clause-each g c = ok_more c.open_found.result (λ live f. f.found.each) c.open_found.ensures.opened

pub returns-in-Ok-clause-checkpoint : goal.returns-in-Ok-clause-checkpoint
returns-in-Ok-clause-checkpoint g c = ok_more c.open_found.result (λ live f. f.checkpoint) c.open_found.ensures.opened

pub returns-in-Ok-clause-count : goal.returns-in-Ok-clause-count
returns-in-Ok-clause-count g c = ok_more c.open_found.result (λ live f. f.found.count) c.open_found.ensures.opened

pub returns-in-Ok-clause-workers : goal.returns-in-Ok-clause-workers
returns-in-Ok-clause-workers g c = ok_more c.open_found.result (λ live f. f.found.workers) c.open_found.ensures.opened

pub returns-in-Ok-clause-holds : goal.returns-in-Ok-clause-holds
returns-in-Ok-clause-holds g c =
    let old = g.D.Disk.history c.args.disk.now in
    let mid = g.D.Disk.history c.attach.new.disk in
    let new = g.D.Disk.history c.open_found.new.disk in
    let image = checkpoint_in c.in-Ok.found.image in
    let later = batches_in c.in-Ok.found.later.items in
    let law = λ (file : ℕ). g.met.D.Disk.reads c.attach.new.disk mid.now file in
    ok_both c.open_found.result (λ live f h images k more reads reopens.
    let there = reads_on old mid images c.attach.ensures.reads reads in
    let stands = c.in-Ok.ensures.stands (told_all mid images there) in
    by_files mid images (reads_left mid images there law) c.in-Ok.store image later stands (Found k more)
    (found_is mid images there law c.in-Ok.store image later (Found k more) c.in-Ok.ensures.stands reopens) new (plan_of live) (stored_state live) live.store
    (subst (λ (s : State). HoldsSaved new (plan_of live) s live.store (renewed (saved_by c.in-Ok.store image later))) (sym f.settings) (h stands)))
    c.open_found.ensures.opened c.open_found.ensures.holds

pub returns-in-Ok-clause-fresh : goal.returns-in-Ok-clause-fresh
returns-in-Ok-clause-fresh g c images k more reads reopens off =
    let old = g.D.Disk.history c.args.disk.now in
    let mid = g.D.Disk.history c.attach.new.disk in
    let image = checkpoint_in c.in-Ok.found.image in
    let later = batches_in c.in-Ok.found.later.items in
    let law = λ (file : ℕ). g.met.D.Disk.reads c.attach.new.disk mid.now file in
    let there = reads_on old mid images c.attach.ensures.reads reads in
    looked_then old mid (g.D.Disk.history c.open_found.new.disk) c.attach.ensures.images
    (c.open_found.ensures.fresh (fresh_is mid images (reads_left mid images there law) c.in-Ok.store image later
    (c.in-Ok.ensures.stands (told_all mid images there)) (Found k more)
    (found_is mid images there law c.in-Ok.store image later (Found k more) c.in-Ok.ensures.stands reopens) off))

pub returns-in-Err-clause-fresh : goal.returns-in-Err-clause-fresh
returns-in-Err-clause-fresh g c images k more reads reopens off = c.attach.ensures.images

pub returns-in-Ok-clause-images : goal.returns-in-Ok-clause-images
returns-in-Ok-clause-images g c images found reads reopens =
    let old = g.D.Disk.history c.args.disk.now in
    let mid = g.D.Disk.history c.attach.new.disk in
    let new = g.D.Disk.history c.open_found.new.disk in
    let image = checkpoint_in c.in-Ok.found.image in
    let later = batches_in c.in-Ok.found.later.items in
    let there = reads_on old mid images c.attach.ensures.reads reads in
    opened_leaves old mid new c.attach.ensures.images images image later found
    (found_is mid images there (λ file. g.met.D.Disk.reads c.attach.new.disk mid.now file) c.in-Ok.store image later found c.in-Ok.ensures.stands reopens)
    (c.open_found.ensures.images (c.in-Ok.ensures.stands (told_all mid images there)))

pub returns-in-Ok-clause-unwritten : goal.returns-in-Ok-clause-unwritten
returns-in-Ok-clause-unwritten g c =
    err_more c.open_found.result (λ why h. unwritten_then (g.D.Disk.history c.args.disk.now) (g.D.Disk.history c.attach.new.disk)
    (g.D.Disk.history c.open_found.new.disk) c.attach.ensures.images why h)
    c.open_found.ensures.unwritten

pub returns-in-Ok-clause-disk : goal.returns-in-Ok-clause-disk
returns-in-Ok-clause-disk g c = ok_more c.open_found.result (λ live le. omega (arith, c.attach.ensures.images.faults, le)) c.open_found.ensures.disk

pub returns-in-Ok-clause-cause : goal.returns-in-Ok-clause-cause
returns-in-Ok-clause-cause g c =
    err_more c.open_found.result (λ why h. found_fault (g.D.Disk.history c.args.disk.now) (g.D.Disk.history c.attach.new.disk)
    (g.D.Disk.history c.open_found.new.disk) c.in-Ok.store
    (checkpoint_in c.in-Ok.found.image) (batches_in c.in-Ok.found.later.items) why c.attach.ensures.images.faults h) c.open_found.ensures.refused
