use Rattle.aria_store.specs.Stands.{batches_in}
use Rattle.slot_images.specs.Said.{checkpoint_in}
use Rattle.store_files.proofs.Attaching.{still_leaves}
use Rattle.store_openings.proofs.Fits.{ready_of, runnable}
use Rattle.store_openings.proofs.Readings.{attaching_of, found_is, reads_left, reads_on}
use Rattle.store_commands.proofs.Replayed.{attach_cause, attach_tells, found_finishes, replay_cause}
use Rattle.store_commands.proofs.replays.replay.Goals as goal

pub not_attached-requires : goal.not_attached-requires
not_attached-requires g c =
    attaching_of (g.D.Disk.history c.args.disk.now) (g.D.Disk.history c.attach.new.disk) c.in-Err.refused c.in-Err.ensures.refused

pub replay_found-requires-clause-ready : goal.replay_found-requires-clause-ready
replay_found-requires-clause-ready g c κs within = ready_of _ (checkpoint_in c.in-Ok.found.image) c.in-Ok.ensures.in_order

pub replay_found-requires-clause-fit : goal.replay_found-requires-clause-fit
replay_found-requires-clause-fit g c κs within =
    runnable (checkpoint_in c.in-Ok.found.image) c.in-Ok.found.image.batches c.in-Ok.found.image.requests c.in-Ok.ensures.later.0
    (batches_in c.in-Ok.found.later.items) c.in-Ok.ensures.in_order.fallback
    c.in-Ok.ensures.later.1

pub returns-in-Err-clause-output : goal.returns-in-Err-clause-output
returns-in-Err-clause-output g c images found reads reopens =
    let old = g.D.Disk.history c.args.disk.now in
    let mid = g.D.Disk.history c.attach.new.disk in
    attach_tells c.args.settings.now images old mid found
    (reads_left mid images (reads_on old mid images c.attach.ensures.reads reads) (λ file. g.met.D.Disk.reads c.attach.new.disk mid.now file)) reopens
    (g.K.Sink.given c.args.out.now) (g.K.Sink.given c.refuse_store.new.out) c.refuse_store.result c.in-Err.refused c.not_attached.result
    c.in-Err.ensures.refused c.not_attached.ensures c.refuse_store.ensures.refuses

pub returns-in-Err-clause-cause : goal.returns-in-Err-clause-cause
returns-in-Err-clause-cause g c =
    attach_cause (g.D.Disk.history c.args.disk.now) (g.D.Disk.history c.attach.new.disk) _ c.in-Err.refused c.not_attached.result c.refuse_store.result
    c.in-Err.ensures.refused c.not_attached.ensures c.refuse_store.ensures.cause

pub returns-in-Ok-clause-output : goal.returns-in-Ok-clause-output
returns-in-Ok-clause-output g c images found reads reopens =
    let old = g.D.Disk.history c.args.disk.now in
    let mid = g.D.Disk.history c.attach.new.disk in
    let there = reads_on old mid images c.attach.ensures.reads reads in
    let same = found_is mid images there (λ file. g.met.D.Disk.reads c.attach.new.disk mid.now file) _ (checkpoint_in c.in-Ok.found.image)
    (batches_in c.in-Ok.found.later.items) found
    c.in-Ok.ensures.stands reopens in
    found_finishes c.args.settings.now images mid (checkpoint_in c.in-Ok.found.image) (batches_in c.in-Ok.found.later.items) found
    (g.K.Sink.given c.args.out.now) (g.K.Sink.given c.replay_found.new.out)
    c.replay_found.result there same c.replay_found.ensures.output

pub returns-in-Ok-clause-images : goal.returns-in-Ok-clause-images
returns-in-Ok-clause-images g c =
    still_leaves (g.D.Disk.history c.args.disk.now) (g.D.Disk.history c.attach.new.disk) (g.D.Disk.history c.replay_found.new.disk) c.attach.ensures.images
    c.replay_found.ensures.still

pub returns-in-Ok-clause-cause : goal.returns-in-Ok-clause-cause
returns-in-Ok-clause-cause g c =
    replay_cause (g.D.Disk.history c.args.disk.now) (g.D.Disk.history c.attach.new.disk) (g.D.Disk.history c.replay_found.new.disk) _ c.replay_found.result
    c.attach.ensures.images.faults c.replay_found.ensures.cause
