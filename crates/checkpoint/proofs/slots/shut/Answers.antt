use Rattle.std.proofs.Common.{rules}
use Rattle.disk_model.proofs.Spans.{stable_untouched}
use Rattle.checkpoint.specs.Slots.{closed}
use Rattle.checkpoint.proofs.Torn.{read_leaves, shut_leaves, gate_is}
use Rattle.checkpoint.proofs.slots.shut.Goals as goal

pub returns-in_err-read_at-clause-images : goal.returns-in_err-read_at-clause-images
returns-in_err-read_at-clause-images g c =
    let reads = g.met.D.Disk.reads c.args.disk.now (g.D.Disk.history c.args.disk.now).now c.args.slot in
    read_leaves _ (g.D.Disk.history c.read_at.new.self) _ c.requires.stable c.requires.some reads c.read_at.ensures.acts c.read_at.ensures.same

pub returns-in_err-write_synced-clause-images : goal.returns-in_err-write_synced-clause-images
returns-in_err-write_synced-clause-images g c =
    let reads = g.met.D.Disk.reads c.args.disk.now (g.D.Disk.history c.args.disk.now).now c.args.slot in
    let gate = gate_is _ _ c.in_ok-read_at.ensures.bytes (search rules) in
    shut_leaves _ (g.D.Disk.history c.read_at.new.self) _ c.requires.stable c.requires.some reads c.read_at.ensures.acts c.read_at.ensures.same
    (g.D.Disk.history c.write_synced.new.disk) gate c.write_synced.ensures.images

pub returns-clause-images : goal.returns-clause-images
returns-clause-images g c =
    let reads = g.met.D.Disk.reads c.args.disk.now (g.D.Disk.history c.args.disk.now).now c.args.slot in
    let gate = gate_is _ _ c.in_ok-read_at.ensures.bytes (search rules) in
    shut_leaves _ (g.D.Disk.history c.read_at.new.self) _ c.requires.stable c.requires.some reads c.read_at.ensures.acts c.read_at.ensures.same
    (g.D.Disk.history c.write_synced.new.disk) gate c.write_synced.ensures.images

pub returns-clause-still_stable : goal.returns-clause-still_stable
returns-clause-still_stable g c = rw c.in_ok-write_synced.ensures.written (stable_untouched _ (λ f. closed f.seen))
