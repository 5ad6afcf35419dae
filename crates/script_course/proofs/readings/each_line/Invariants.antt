use Rattle.std.proofs.Common.{◌≤◌, [], drop}
use Rattle.script_course.specs.Courses.{Goes, with_lines}
use Rattle.script_course.specs.Served.{Leads}
use Rattle.script_course.proofs.readings.each_line.Given as goal

abbrev pub invariant-loop-line : goal.invariant-loop-line
invariant-loop-line g l = record {
  sink : g.K.Sink.faults l.initial.out ≤ g.K.Sink.faults l.out;
  held : g.C.Reads.held l.course;
  leads : Leads (with_lines g.C.Reads.on_line (Goes [] l.course) (drop l.line-index l.lines)) (g.K.Sink.given l.out)
      (with_lines g.C.Reads.on_line (Goes [] l.initial.course) l.lines) (g.K.Sink.given l.initial.out);
}
