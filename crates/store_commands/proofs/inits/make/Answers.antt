use Rattle.std.proofs.Common.{refl, rules}
use Rattle.aria_base.specs.Faults.{Rose}
use Rattle.script_course.proofs.Turns.{front_none}
use Rattle.script_places.specs.Places.{plan_in}
use Rattle.store_commands.specs.Inits.{IsMadeOf}
use Rattle.store_commands.proofs.Ended.{choice, ends_cut, ends_made, leaves_made, ready_given}
use Rattle.store_commands.proofs.Whole.{ungiven_never}
use Rattle.store_commands.proofs.inits.make.Goals as goal

pub returns-in-Ok-clause-ends : goal.returns-in-Ok-clause-ends
returns-in-Ok-clause-ends g c =
    ends_made c.args.settings.now
    (IsMadeOf c.args.settings.now (plan_in c.args.head, c.args.tables) (g.D.Disk.history c.create.new.disk))
    (g.D.Disk.history c.args.disk.now) (g.D.Disk.history c.create.new.disk) (g.K.Sink.given c.args.out.now)
    (g.K.Sink.given c.end_with.new.out) c.end_with.result
    c.in-Ok.ensures.free (search rules)
    (ready_given c.ready_line.result.now (g.K.Sink.given c.args.out.now) (g.K.Sink.given c.end_with.new.out) c.end_with.result c.ready_line.ensures
    c.end_with.ensures.finishes)

pub returns-in-Ok-clause-leaves : goal.returns-in-Ok-clause-leaves
returns-in-Ok-clause-leaves g c =
    leaves_made g.D.Disk.history c.args.disk.now c.create.new.disk (g.K.Sink.given c.args.out.now) (g.K.Sink.given c.end_with.new.out) c.end_with.result
    (ready_given c.ready_line.result.now (g.K.Sink.given c.args.out.now) (g.K.Sink.given c.end_with.new.out) c.end_with.result c.ready_line.ensures
    c.end_with.ensures.finishes)
    c.end_with.ensures.read

pub returns-in-Err-Memory-clause-ends : goal.returns-in-Err-Memory-clause-ends
returns-in-Err-Memory-clause-ends g c =
    ends_cut c.args.settings.now
    (IsMadeOf c.args.settings.now (plan_in c.args.head, c.args.tables) (g.D.Disk.history c.create.new.disk))
    (g.D.Disk.history c.args.disk.now) (g.D.Disk.history c.create.new.disk) (g.K.Sink.given c.args.out.now)
    (g.K.Sink.given c.args.out.now) _
    c.create.ensures.unwritten refl (λ refused. front_none (g.K.Sink.given c.args.out.now) (choice refused).bytes)

pub returns-in-Err-DiskFault-clause-ends : goal.returns-in-Err-DiskFault-clause-ends
returns-in-Err-DiskFault-clause-ends g c =
    ends_cut c.args.settings.now
    (IsMadeOf c.args.settings.now (plan_in c.args.head, c.args.tables) (g.D.Disk.history c.create.new.disk))
    (g.D.Disk.history c.args.disk.now) (g.D.Disk.history c.create.new.disk) (g.K.Sink.given c.args.out.now)
    (g.K.Sink.given c.args.out.now) _
    c.create.ensures.unwritten refl (λ refused. front_none (g.K.Sink.given c.args.out.now) (choice refused).bytes)

pub returns-in-Ok-clause-ungiven : goal.returns-in-Ok-clause-ungiven
returns-in-Ok-clause-ungiven g c = ungiven_never (Rose (g.K.Sink.faults c.args.out.now) (g.K.Sink.faults c.end_with.new.out)) (g.K.Sink.given c.args.out.now)
    (g.K.Sink.given c.end_with.new.out) c.end_with.result c.end_with.ensures.cause

pub returns-in-Err-Exists-clause-ungiven : goal.returns-in-Err-Exists-clause-ungiven
returns-in-Err-Exists-clause-ungiven g c = ungiven_never (Rose (g.K.Sink.faults c.args.out.now) (g.K.Sink.faults c.end_with-in-Err-Exists.new.out))
    (g.K.Sink.given c.args.out.now) (g.K.Sink.given c.end_with-in-Err-Exists.new.out) c.end_with-in-Err-Exists.result c.end_with-in-Err-Exists.ensures.cause
