use Rattle.std.proofs.Common.{rules, ◌≡◌, map, Some, None}
use Rattle.std.specs.Prelude.{string_bytes}
use Rattle.std.specs.Io.KnownBytes.{Appends}
use Rattle.aria_base.specs.Streams.{AppendsFront}
use Rattle.aria_top.specs.Out.{out_for}
use Rattle.aria_top.specs.Tasks.{task_in}
use Rattle.aria_top.proofs.Asked.{leaves_asked, leaves_untouched, nothing_yet, out_asked, sees_asked, told_asked}
use Rattle.aria_top.proofs.top_call.aria.Goals as goal

pub returns-in-Ok-Some-clause-answered : goal.returns-in-Ok-Some-clause-answered
returns-in-Ok-Some-clause-answered g c images found sees done =
    let asked : task_in (map string_bytes c.args.words.now) ≡ Some c.in-Ok-Some.task = search rules in
    out_asked (task_in (map string_bytes c.args.words.now)) c.in-Ok-Some.task asked images found (g.S.Source.left c.args.input.now)
    (λ o. (c.run_task.result ≡ o.status) × Appends (g.K.Sink.given c.args.out.now) (g.K.Sink.given c.run_task.new.out) o.bytes)
    (c.run_task.ensures.answered images found (sees_asked (task_in (map string_bytes c.args.words.now)) c.in-Ok-Some.task asked images found
    (g.D.Disk.history c.args.disk.now) sees) done)

pub returns-in-Ok-Some-clause-front : goal.returns-in-Ok-Some-clause-front
returns-in-Ok-Some-clause-front g c images found sees =
    let asked : task_in (map string_bytes c.args.words.now) ≡ Some c.in-Ok-Some.task = search rules in
    out_asked (task_in (map string_bytes c.args.words.now)) c.in-Ok-Some.task asked images found (g.S.Source.left c.args.input.now)
    (λ o. AppendsFront (g.K.Sink.given c.args.out.now) (g.K.Sink.given c.run_task.new.out) o.bytes)
    (c.run_task.ensures.front images found (sees_asked (task_in (map string_bytes c.args.words.now)) c.in-Ok-Some.task asked images found
    (g.D.Disk.history c.args.disk.now) sees))

pub returns-in-Ok-Some-clause-told : goal.returns-in-Ok-Some-clause-told
returns-in-Ok-Some-clause-told g c images found sees failed =
    let asked : task_in (map string_bytes c.args.words.now) ≡ Some c.in-Ok-Some.task = search rules in
    told_asked (task_in (map string_bytes c.args.words.now)) c.in-Ok-Some.task asked images found (g.S.Source.left c.args.input.now)
    (g.S.Source.left c.run_task.new.input) (g.K.Sink.given c.args.out.now)
    (g.K.Sink.given c.run_task.new.out)
    (c.run_task.ensures.told images found (sees_asked (task_in (map string_bytes c.args.words.now)) c.in-Ok-Some.task asked images found
    (g.D.Disk.history c.args.disk.now) sees) failed)

pub returns-in-Ok-Some-clause-leaves : goal.returns-in-Ok-Some-clause-leaves
returns-in-Ok-Some-clause-leaves g c =
    let asked : task_in (map string_bytes c.args.words.now) ≡ Some c.in-Ok-Some.task = search rules in
    leaves_asked (task_in (map string_bytes c.args.words.now)) c.in-Ok-Some.task asked (g.S.Source.left c.args.input.now)
    (g.D.Disk.history c.args.disk.now) (g.D.Disk.history c.run_task.new.disk)
    (g.K.Sink.given c.args.out.now) (g.K.Sink.given c.run_task.new.out) c.run_task.result c.run_task.ensures.leaves

pub returns-in-Err-clause-front : goal.returns-in-Err-clause-front
returns-in-Err-clause-front g c images found sees = nothing_yet (out_for (map string_bytes c.args.words.now) (g.S.Source.left c.args.input.now) images found)
    (g.K.Sink.given c.args.out.now)

pub returns-in-Err-clause-leaves : goal.returns-in-Err-clause-leaves
returns-in-Err-clause-leaves g c =
    leaves_untouched (task_in (map string_bytes c.args.words.now)) (g.S.Source.left c.args.input.now) (g.D.Disk.history c.args.disk.now)
    (g.K.Sink.given c.args.out.now)
