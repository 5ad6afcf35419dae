use Rattle.std.proofs.Common.{rules, ◌≡◌, Some}
use Rattle.script_text.specs.Lines.{last_line}
use Rattle.script_course.proofs.Wholes.{last_is}
use Rattle.script_course.proofs.readings.finish.Goals as goal

pub returns-in-Some-clause-serves : goal.returns-in-Some-clause-serves
returns-in-Some-clause-serves g c =
    let is : last_line c.args.lines ≡ Some c.as_slice.result.now = search rules in
    last_is g.C.Reads.on_line c.args.course c.as_slice.result.now (last_line c.args.lines) (g.K.Sink.given c.args.out.now)
    (g.K.Sink.given c.line.new.out) c.line.result is c.line.ensures.serves
