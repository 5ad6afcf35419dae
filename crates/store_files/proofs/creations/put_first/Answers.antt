use Rattle.std.proofs.Common.{sym, ◌∙◌, subst, arith}
use Rattle.disk_model.specs.Histories.{current, IsStable}
use Rattle.disk_model.proofs.Spans.{stable_untouched}
use Rattle.checkpoint.specs.Slots.{laid, opened}
use Rattle.disk_model.proofs.Spans.{other_stays}
use Rattle.store_files.proofs.Rotates.{settled_after}
use Rattle.store_files.proofs.Syncs.{first_holds, unchanged}
use Rattle.store_files.proofs.creations.put_first.Goals as goal

pub show-requires-clause-stable : goal.show-requires-clause-stable
show-requires-clause-stable g c =
    let still = other_stays (g.D.Disk.history c.lay.new.disk) (g.D.Disk.history c.fresh.new.disk) 3 _ c.fresh.ensures.images 1
    (λ e. absurd (omega (arith, e))) in
    subst IsStable (sym (still ∙ c.in_ok-lay.ensures.bytes))
    (stable_untouched (current (g.D.Disk.history c.args.disk.now) 1) (λ f. laid c.args.head.now c.args.body.now f.seen))

pub returns-clause-holds : goal.returns-clause-holds
returns-clause-holds g c =
    let reads = g.met.D.Disk.reads c.args.disk.now (g.D.Disk.history c.args.disk.now).now 1 in
    first_holds c.args.head.now c.args.body.now (g.D.Disk.history c.args.disk.now) (g.D.Disk.history c.lay.new.disk) (g.D.Disk.history c.fresh.new.disk)
    (g.D.Disk.history c.show.new.disk) _ _ _ c.requires.sound c.requires.body reads c.requires.first c.requires.second
    c.lay.ensures.images c.fresh.ensures.images c.show.ensures.images c.in_ok-lay.ensures.bytes c.in_ok-end.ensures.ends c.in_ok-show.ensures.bytes

pub returns-clause-settled : goal.returns-clause-settled
returns-clause-settled g c =
    let a = g.D.Disk.history c.args.disk.now in
    settled_after 0 a a (g.D.Disk.history c.lay.new.disk) (g.D.Disk.history c.fresh.new.disk) (g.D.Disk.history c.show.new.disk) _ _ _ _
    (λ f. laid c.args.head.now c.args.body.now f.seen) (λ f. opened f.seen)
    (omega arith) c.requires.settled (unchanged a 1) c.lay.ensures.images c.fresh.ensures.images c.show.ensures.images c.in_ok-end.ensures.stable
    c.in_ok-show.ensures.bytes
