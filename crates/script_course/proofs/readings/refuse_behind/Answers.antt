use Rattle.std.proofs.Common.{[]}
use Rattle.script_course.specs.Courses.{Goes, with_lines}
use Rattle.script_course.proofs.Turns.{refused_on, refused_cut}
use Rattle.script_course.proofs.readings.refuse_behind.Goals as goal

pub returns-in-Ok-clause-serves : goal.returns-in-Ok-clause-serves
returns-in-Ok-clause-serves g c =
    refused_on (with_lines g.C.Reads.on_line (Goes [] c.args.course) c.args.lines.now) c.in-Ok.field-0 c.args.refusal.now (g.K.Sink.given c.args.out.now)
    (g.K.Sink.given c.each_line.new.out) (g.K.Sink.given c.refuse.new.out)
    c.refuse.result c.in-Ok.ensures.serves c.refuse.ensures.serves

pub returns-in-Err-clause-serves : goal.returns-in-Err-clause-serves
returns-in-Err-clause-serves g c =
    refused_cut (with_lines g.C.Reads.on_line (Goes [] c.args.course) c.args.lines.now) c.args.refusal.now (g.K.Sink.given c.args.out.now)
    (g.K.Sink.given c.each_line.new.out) c.in-Err.stop c.in-Err.ensures.serves
