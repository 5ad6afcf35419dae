use Rattle.std.proofs.Common.{◌≡◌, drop}
use Rattle.std.specs.FinMap as fin
use Rattle.range_marks.specs.Marks.{with_scans}
use Rattle.range_marks.proofs.marks.all_scanned.Given as goal

abbrev pub invariant-loop-ran : goal.invariant-loop-ran
invariant-loop-ran l = with_scans l.scanned (drop l.ran-index l.rans) ≡ with_scans fin.empty l.rans
