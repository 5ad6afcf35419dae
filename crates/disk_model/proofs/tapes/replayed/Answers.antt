use Rattle.std.proofs.Common.{rules}
use Rattle.std.proofs.lemmas.List.{drop_more, drop_all}
use Rattle.disk_model.specs.declared.tapes.Entry.TheVariants.{Idle}
use Rattle.disk_model.proofs.Replays.{leads_start, leads_more, leads_all}
use Rattle.disk_model.proofs.tapes.replayed.Goals as goal

pub loop-entry-init : goal.loop-entry-init
loop-entry-init c = leads_start _ _ _ _ _ _ c.requires (search rules) c.new-loose.ensures.items

pub loop-entry-preserved : goal.loop-entry-preserved
loop-entry-preserved c =
    let split = drop_more c.args.entries.now c.loop-entry.entry-index Idle c.loop-entry-test.true in
    let so_far = rw split at c.loop-entry.invariant in
    let makes = rw (c.split_at.ensures.front, c.bytes.ensures) at c.in_ok-replay.ensures in
    rw (c.split_at.ensures.back, c.bytes.ensures) (leads_more _ _ _ _ _ _ _ _ _ so_far makes)

pub returns : goal.returns
returns c = leads_all _ _ _ _ _ (rw (drop_all c.loop-entry.entry-index c.args.entries.now c.loop-entry-test.false) at c.loop-entry.invariant)
