use Rattle.std.proofs.Common.{◌≡◌}
use Rattle.range_rules.proofs.Courses.{Leads}
use Rattle.range_runs.specs.Windows.{course_of}
use Rattle.range_runs.proofs.runs.run_routine.Given as goal

abbrev pub invariant-loop-made : goal.invariant-loop-made
invariant-loop-made g l = record {
  base : l.window.layer.base ≡ l.fn.snapshot;
  leads : Leads (g.R.Routine.act l.routines l.q l.call) l.fn.snapshot l._made (course_of l.window l.seen.items);
}
