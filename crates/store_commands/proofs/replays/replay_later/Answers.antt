use Rattle.std.proofs.Common.{◌≡◌, subst}
use Rattle.aria_store.specs.Stands.{batches_in}
use Rattle.store_commands.specs.Replays.{IsHalt, crowded_out}
use Rattle.store_commands.specs.declared.steps.Halt.{Halt}
use Rattle.store_commands.specs.declared.steps.Halt.TheVariants as halt
use Rattle.store_commands.proofs.Replayed.{crowd_cause, crowd_told}
use Rattle.store_commands.proofs.replays.replay_later.Goals as goal

pub returns-in-Err-Stopped-clause-output : goal.returns-in-Err-Stopped-clause-output
returns-in-Err-Stopped-clause-output g c bytes reads =
    let same : c.in-Err-Stopped.field-0 ≡ halt.Stopped c.in-Err-Stopped.stop = cc in
    let stopped = subst (λ (h : Halt). IsHalt c.args.start (batches_in c.args.later.items) (g.K.Sink.given c.args.out.now)
    (g.K.Sink.given c.answer_all.new.out) h) same c.in-Err-Stopped.ensures.halt in
    stopped.1 (crowded_out c.args.log bytes)

pub returns-in-Err-Crowded-clause-output : goal.returns-in-Err-Crowded-clause-output
returns-in-Err-Crowded-clause-output g c bytes reads =
    let same : c.in-Err-Crowded.field-0 ≡ halt.Crowded c.in-Err-Crowded.place = cc in
    let leads = subst (λ (h : Halt). IsHalt c.args.start (batches_in c.args.later.items) (g.K.Sink.given c.args.out.now)
    (g.K.Sink.given c.answer_all.new.out) h) same c.in-Err-Crowded.ensures.halt in
    leads (crowded_out c.args.log bytes) (g.K.Sink.given c.refuse_store.new.out) c.refuse_store.result
    (crowd_told (g.D.Disk.history c.args.disk.now) (g.D.Disk.history c.damage_at-why.new.disk) c.args.log c.in-Err-Crowded.place bytes
    (g.K.Sink.given c.answer_all.new.out) (g.K.Sink.given c.refuse_store.new.out) c.refuse_store.result c.damage_at-why.result reads
    c.damage_at-why.ensures.look c.refuse_store.ensures.refuses)

pub returns-in-Err-Crowded-clause-cause : goal.returns-in-Err-Crowded-clause-cause
returns-in-Err-Crowded-clause-cause g c =
    crowd_cause (g.D.Disk.history c.args.disk.now) (g.D.Disk.history c.damage_at-why.new.disk) c.args.log c.in-Err-Crowded.place
    (g.K.Sink.faults c.args.out.now) (g.K.Sink.faults c.answer_all.new.out) (g.K.Sink.faults c.refuse_store.new.out) c.damage_at-why.result
    c.refuse_store.result c.damage_at-why.ensures.look c.answer_all.ensures.sink c.refuse_store.ensures.cause
