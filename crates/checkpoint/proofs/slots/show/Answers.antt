use Rattle.disk_model.proofs.Spans.{stable_untouched}
use Rattle.checkpoint.specs.Slots.{opened}
use Rattle.checkpoint.proofs.Torn.{show_leaves}
use Rattle.checkpoint.proofs.slots.show.Goals as goal

pub returns-in_err-write_synced-clause-images : goal.returns-in_err-write_synced-clause-images
returns-in_err-write_synced-clause-images g c =
    let reads = g.met.D.Disk.reads c.args.disk.now (g.D.Disk.history c.args.disk.now).now c.args.slot in
    show_leaves _ (g.D.Disk.history c.write_synced.new.disk) _ reads c.requires.shut c.requires.stable c.write_synced.ensures.images

pub returns-clause-images : goal.returns-clause-images
returns-clause-images g c =
    let reads = g.met.D.Disk.reads c.args.disk.now (g.D.Disk.history c.args.disk.now).now c.args.slot in
    show_leaves _ (g.D.Disk.history c.write_synced.new.disk) _ reads c.requires.shut c.requires.stable c.write_synced.ensures.images

pub returns-clause-still_stable : goal.returns-clause-still_stable
returns-clause-still_stable g c = rw c.in_ok-write_synced.ensures.written (stable_untouched _ (λ f. opened f.seen))
