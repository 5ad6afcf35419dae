use Rattle.gen_command.specs.Scripts.{script_of}
use Rattle.script_course.specs.declared.statuses.TheConstants.{DONE}
use Rattle.aria_top.proofs.Stopped.{one_answered, one_front, others_drawn, own_done, unread, write_fault}
use Rattle.aria_top.proofs.commands.run_gen.Goals as goal

pub returns-clause-answered : goal.returns-clause-answered
returns-clause-answered g c answered =
    one_answered (record { bytes = script_of c.args.settings.now; status = DONE }) (g.K.Sink.given c.args.out.now) (g.K.Sink.given c.generate.new.out)
    c.generate.result c.final_status.result c.final_status.ensures c.generate.ensures.finishes answered

pub returns-clause-front : goal.returns-clause-front
returns-clause-front g c =
    one_front (record { bytes = script_of c.args.settings.now; status = DONE }) (g.K.Sink.given c.args.out.now) (g.K.Sink.given c.generate.new.out)
    c.generate.result c.generate.ensures.finishes

pub returns-clause-others : goal.returns-clause-others
returns-clause-others g c =
    others_drawn (script_of c.args.settings.now) (g.K.Sink.given c.args.out.now) (g.K.Sink.given c.generate.new.out) _ c.generate.result c.final_status.result
    c.final_status.ensures c.generate.ensures.zero c.generate.ensures.finishes c.generate.ensures.cause

pub returns-clause-write : goal.returns-clause-write
returns-clause-write g c =
    write_fault _ _ _ c.generate.result c.final_status.result c.final_status.ensures (own_done c.generate.result c.generate.ensures.zero)
    (unread _ _ c.generate.result c.generate.ensures.cause)
