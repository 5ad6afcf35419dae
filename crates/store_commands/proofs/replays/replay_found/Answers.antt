use Rattle.std.proofs.Common.{◌∙◌, ap, subst}
use Rattle.aria_store.specs.Stands.{batches_in}
use Rattle.run_commands.specs.Outs.{is_each}
use Rattle.script_course.specs.Courses.{Out}
use Rattle.script_course.specs.Served.{Finishes}
use Rattle.serving.specs.Lives.{plan_of, state_of}
use Rattle.serving.specs.Stored.{state_at}
use Rattle.slot_images.specs.Said.{checkpoint_in}
use Rattle.store_openings.specs.Openings.{log_in}
use Rattle.store_openings.specs.declared.engines.RunSettings.{RunSettings}
use Rattle.store_commands.proofs.Replayed.{fit_from, read_from, replayed_from}
use Rattle.store_commands.proofs.replays.replay_found.Goals as goal

pub replay_later-requires-clause-fit : goal.replay_later-requires-clause-fit
replay_later-requires-clause-fit g c κs within =
    fit_from (plan_of c.in-Ok.live) c.args.found.image.catalog (state_of c.in-Ok.live) (state_at (checkpoint_in c.args.found.image))
    (batches_in c.args.found.later.items) c.in-Ok.ensures.plan c.in-Ok.ensures.state
    c.requires.fit

pub returns-in-Ok-clause-output : goal.returns-in-Ok-clause-output
returns-in-Ok-clause-output g c bytes reads =
    let c0 = checkpoint_in c.args.found.image in
    let old = g.D.Disk.history c.args.disk.now in
    subst (λ (out : Out). Finishes out (g.K.Sink.given c.args.out.now) (g.K.Sink.given c.replay_later.new.out) c.replay_later.result)
    (replayed_from bytes (batches_in c.args.found.later.items) (plan_of c.in-Ok.live) c.args.found.image.catalog c.in-Ok.live.each
    (is_each c.args.settings.now.listing) c.log_of-log.result (log_in c0)
    (state_of c.in-Ok.live) (state_at c0) c.in-Ok.ensures.plan (c.in-Ok.ensures.each ∙ ap (λ (e : RunSettings). e.each) c.engines_of-engines.ensures)
    c.log_of-log.ensures.log c.in-Ok.ensures.state)
    (c.replay_later.ensures.output bytes (read_from old c.log_of-log.result (log_in c0) bytes c.log_of-log.ensures.log reads))
