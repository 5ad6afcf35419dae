use Rattle.std.proofs.Common.{List, sym, subst}
use Rattle.range_rules.specs.declared.routines.Prefix.{Prefix}
use Rattle.range_runs.specs.Marks.{HasMarks}
use Rattle.range_runs.proofs.Marking.{no_marks}
use Rattle.range_runs.proofs.scans.Scans.new.Goals as goal

pub invariant_of-result : goal.invariant_of-result
invariant_of-result c =
    subst (λ (list : List Prefix). HasMarks list c.new-marks.result) (sym c.new-list.ensures.items) (no_marks c.new-marks.result c.new-marks.ensures)
