use Rattle.std.proofs.Common.{◌≤◌, ◌+◌, ◌-◌}
use Rattle.script_course.specs.Courses.{told, told_whole}
use Rattle.script_course.specs.Served.{Carries}
use Rattle.script_text.specs.Lines.{blank}
use Rattle.script_course.proofs.readings.read_through.Given as goal

abbrev pub invariant-loop-count : goal.invariant-loop-count
invariant-loop-count g l = record {
  source : g.S.Source.faults l.initial.input ≤ g.S.Source.faults l.input;
  sink : g.K.Sink.faults l.initial.out ≤ g.K.Sink.faults l.out;
  within : l.lines.taken ≤ l.lines.limit;
  held : g.C.Reads.held l.course;
  leads : Carries (told g.C.Reads.on_line l.lines l.course) (told_whole g.C.Reads.on_line l.lines l.course) (g.S.Source.left l.input) (g.K.Sink.given l.out)
      (told g.C.Reads.on_line (blank l.fn.limit l.fn.longest) l.initial.course) (told_whole g.C.Reads.on_line (blank l.fn.limit l.fn.longest) l.initial.course)
      (g.S.Source.left l.initial.input) (g.K.Sink.given l.initial.out);
}

abbrev pub decreases-loop-count : goal.decreases-loop-count
decreases-loop-count g l = l.lines.limit + 1 - l.lines.taken
