use Rattle.std.proofs.Common.{◌≡◌, sym, subst, Some}
use Rattle.std.specs.Option.{IfSome}
use Rattle.std.specs.Io.KnownBytes.{Appends}
use Rattle.aria_base.specs.Streams.{AppendsFront}
use Rattle.script_course.specs.Courses.{Out}
use Rattle.store_commands.specs.Inits as init
use Rattle.aria_top.specs.Disks.{LeavesDisk, Sees, is_taken}
use Rattle.aria_top.specs.Out.{IsToldFor, out_of_task}
use Rattle.command_words.specs.declared.settings.Command.{Command}
use Rattle.aria_top.proofs.Asked.{by_left}
use Rattle.aria_top.proofs.top_call.run_task.Goals as goal

pub returns-in-Init-clause-answered : goal.returns-in-Init-clause-answered
returns-in-Init-clause-answered g c images found sees done =
    let left = g.S.Source.left c.args.input.now in
    let Q = λ (o : Out). (c.run_init.result ≡ o.status) × Appends (g.K.Sink.given c.args.out.now) (g.K.Sink.given c.run_init.new.out) o.bytes in
    let reads = subst (λ (t : Command). Sees (Some t) (g.D.Disk.history c.args.disk.now) images found) c.in-Init.is sees in
    subst (λ (t : Command). IfSome (out_of_task t left images found) Q) (sym c.in-Init.is)
    (by_left (init.out_of c.in-Init.settings (is_taken images)) left Q (c.run_init.ensures.answered images reads done))

pub returns-in-Init-clause-front : goal.returns-in-Init-clause-front
returns-in-Init-clause-front g c images found sees =
    let left = g.S.Source.left c.args.input.now in
    let Q = λ (o : Out). AppendsFront (g.K.Sink.given c.args.out.now) (g.K.Sink.given c.run_init.new.out) o.bytes in
    let reads = subst (λ (t : Command). Sees (Some t) (g.D.Disk.history c.args.disk.now) images found) c.in-Init.is sees in
    subst (λ (t : Command). IfSome (out_of_task t left images found) Q) (sym c.in-Init.is)
    (by_left (init.out_of c.in-Init.settings (is_taken images)) left Q (c.run_init.ensures.front images reads))

pub returns-in-Run-clause-answered : goal.returns-in-Run-clause-answered
returns-in-Run-clause-answered g c images found sees done =
    let left = g.S.Source.left c.args.input.now in
    let Q = λ (o : Out). (c.run_batches.result ≡ o.status) × Appends (g.K.Sink.given c.args.out.now) (g.K.Sink.given c.run_batches.new.out) o.bytes in
    let seen = subst (λ (t : Command). Sees (Some t) (g.D.Disk.history c.args.disk.now) images found) c.in-Run.is sees in
    subst (λ (t : Command). IfSome (out_of_task t left images found) Q) (sym c.in-Run.is) (c.run_batches.ensures.answered images found seen.0 seen.1 done)

pub returns-in-Run-clause-front : goal.returns-in-Run-clause-front
returns-in-Run-clause-front g c images found sees =
    let left = g.S.Source.left c.args.input.now in
    let Q = λ (o : Out). AppendsFront (g.K.Sink.given c.args.out.now) (g.K.Sink.given c.run_batches.new.out) o.bytes in
    let seen = subst (λ (t : Command). Sees (Some t) (g.D.Disk.history c.args.disk.now) images found) c.in-Run.is sees in
    subst (λ (t : Command). IfSome (out_of_task t left images found) Q) (sym c.in-Run.is) (c.run_batches.ensures.front images found seen.0 seen.1)

pub returns-in-Run-clause-told : goal.returns-in-Run-clause-told
returns-in-Run-clause-told g c images found sees failed =
    let seen = subst (λ (t : Command). Sees (Some t) (g.D.Disk.history c.args.disk.now) images found) c.in-Run.is sees in
    subst (λ (t : Command). IsToldFor (Some t) images found (g.S.Source.left c.args.input.now) (g.S.Source.left c.run_batches.new.input)
    (g.K.Sink.given c.args.out.now) (g.K.Sink.given c.run_batches.new.out))
    (sym c.in-Run.is) (c.run_batches.ensures.told images found seen.0 seen.1 failed)

pub returns-in-Run-clause-leaves : goal.returns-in-Run-clause-leaves
returns-in-Run-clause-leaves g c =
    subst (λ (t : Command). LeavesDisk (Some t) (g.S.Source.left c.args.input.now) (g.D.Disk.history c.args.disk.now)
    (g.D.Disk.history c.run_batches.new.disk) (g.K.Sink.given c.args.out.now)
    (g.K.Sink.given c.run_batches.new.out) c.run_batches.result) (sym c.in-Run.is) c.run_batches.ensures.leaves

pub returns-in-Replay-clause-answered : goal.returns-in-Replay-clause-answered
returns-in-Replay-clause-answered g c images found sees done =
    let left = g.S.Source.left c.args.input.now in
    let Q = λ (o : Out). (c.run_replay.result ≡ o.status) × Appends (g.K.Sink.given c.args.out.now) (g.K.Sink.given c.run_replay.new.out) o.bytes in
    let seen = subst (λ (t : Command). Sees (Some t) (g.D.Disk.history c.args.disk.now) images found) c.in-Replay.is sees in
    subst (λ (t : Command). IfSome (out_of_task t left images found) Q) (sym c.in-Replay.is) (c.run_replay.ensures.answered images found seen.0 seen.1 done)
