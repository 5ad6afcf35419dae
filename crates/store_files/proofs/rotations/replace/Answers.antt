use Rattle.std.proofs.Common.{◌-◌, ◌+◌, sym, ◌∙◌, subst, arith}
use Rattle.disk_model.specs.Histories.{current, IsStable}
use Rattle.disk_model.proofs.Spans.{stable_untouched}
use Rattle.checkpoint.specs.Slots.{laid, opened}
use Rattle.disk_model.proofs.Spans.{other_stays}
use Rattle.store_files.proofs.Rotates.{shutting, to_laid, to_emptied, to_shown, settled_after}
use Rattle.store_files.proofs.rotations.replace.Goals as goal

pub returns-in_err-shut-clause-images : goal.returns-in_err-shut-clause-images
returns-in_err-shut-clause-images g c h b log holds lower =
    (shutting c.args.slot c.requires.slot c.args.head.now c.args.body.now h b log lower (g.D.Disk.history c.args.disk.now)
    (g.D.Disk.history c.shut.new.disk) holds c.shut.ensures.images).0

pub returns-in_err-lay-clause-images : goal.returns-in_err-lay-clause-images
returns-in_err-lay-clause-images g c h b log holds lower =
    (to_laid c.args.slot c.requires.slot c.args.head.now c.args.body.now h b log lower (g.D.Disk.history c.args.disk.now) (g.D.Disk.history c.shut.new.disk)
    (g.D.Disk.history c.lay.new.disk) holds c.shut.ensures.images c.lay.ensures.images).0

pub returns-in_err-end-clause-images : goal.returns-in_err-end-clause-images
returns-in_err-end-clause-images g c h b log holds lower =
    (to_emptied c.args.slot c.requires.slot c.args.head.now c.args.body.now h b log lower (g.D.Disk.history c.args.disk.now) (g.D.Disk.history c.shut.new.disk)
    (g.D.Disk.history c.lay.new.disk) (g.D.Disk.history c.fresh.new.disk) _ holds c.shut.ensures.images c.lay.ensures.images c.fresh.ensures.images).0

pub show-requires-clause-stable : goal.show-requires-clause-stable
show-requires-clause-stable g c =
    let still = other_stays (g.D.Disk.history c.lay.new.disk) (g.D.Disk.history c.fresh.new.disk) (2 + (1 - c.args.slot)) _ c.fresh.ensures.images
    (1 - c.args.slot) (λ e. absurd (omega (arith, e, c.requires.slot))) in
    subst IsStable (sym (still ∙ c.in_ok-lay.ensures.bytes))
    (stable_untouched (current (g.D.Disk.history c.shut.new.disk) (1 - c.args.slot)) (λ f. laid c.args.head.now c.args.body.now f.seen))

pub returns-in_err-show-clause-images : goal.returns-in_err-show-clause-images
returns-in_err-show-clause-images g c h b log holds lower =
    let reads = g.met.D.Disk.reads c.shut.new.disk (g.D.Disk.history c.shut.new.disk).now (1 - c.args.slot) in
    (to_shown c.args.slot c.requires.slot c.args.head.now c.args.body.now h b log lower (g.D.Disk.history c.args.disk.now) (g.D.Disk.history c.shut.new.disk)
    (g.D.Disk.history c.lay.new.disk) (g.D.Disk.history c.fresh.new.disk) (g.D.Disk.history c.show.new.disk) _ holds c.shut.ensures.images
    c.lay.ensures.images c.fresh.ensures.images c.show.ensures.images
    c.requires.sound c.requires.body reads c.in_ok-shut.ensures.shut c.in_ok-lay.ensures.bytes c.in_ok-end.ensures.ends).0

pub returns-clause-images : goal.returns-clause-images
returns-clause-images g c h b log holds lower =
    let reads = g.met.D.Disk.reads c.shut.new.disk (g.D.Disk.history c.shut.new.disk).now (1 - c.args.slot) in
    (to_shown c.args.slot c.requires.slot c.args.head.now c.args.body.now h b log lower (g.D.Disk.history c.args.disk.now) (g.D.Disk.history c.shut.new.disk)
    (g.D.Disk.history c.lay.new.disk) (g.D.Disk.history c.fresh.new.disk) (g.D.Disk.history c.show.new.disk) _ holds c.shut.ensures.images
    c.lay.ensures.images c.fresh.ensures.images c.show.ensures.images
    c.requires.sound c.requires.body reads c.in_ok-shut.ensures.shut c.in_ok-lay.ensures.bytes c.in_ok-end.ensures.ends).0

pub returns-clause-holds : goal.returns-clause-holds
returns-clause-holds g c =
    let h = c.requires.holds in
    let reads = g.met.D.Disk.reads c.shut.new.disk (g.D.Disk.history c.shut.new.disk).now (1 - c.args.slot) in
    (to_shown c.args.slot c.requires.slot c.args.head.now c.args.body.now h.0 h.1 h.2 h.4 (g.D.Disk.history c.args.disk.now) (g.D.Disk.history c.shut.new.disk)
    (g.D.Disk.history c.lay.new.disk) (g.D.Disk.history c.fresh.new.disk) (g.D.Disk.history c.show.new.disk) _ h.3 c.shut.ensures.images
    c.lay.ensures.images c.fresh.ensures.images c.show.ensures.images
    c.requires.sound c.requires.body reads c.in_ok-shut.ensures.shut c.in_ok-lay.ensures.bytes c.in_ok-end.ensures.ends).1 c.in_ok-show.ensures.bytes

pub returns-clause-settled : goal.returns-clause-settled
returns-clause-settled g c =
    settled_after c.args.slot (g.D.Disk.history c.args.disk.now) (g.D.Disk.history c.shut.new.disk) (g.D.Disk.history c.lay.new.disk)
    (g.D.Disk.history c.fresh.new.disk) (g.D.Disk.history c.show.new.disk) _ _ _ _ (λ f. laid c.args.head.now c.args.body.now f.seen) (λ f. opened f.seen)
    c.requires.slot c.requires.settled c.shut.ensures.images c.lay.ensures.images c.fresh.ensures.images c.show.ensures.images c.in_ok-end.ensures.stable
    c.in_ok-show.ensures.bytes
