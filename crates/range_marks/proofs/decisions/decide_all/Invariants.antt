use Rattle.std.proofs.Common.{◌≡◌, map}
use Rattle.std.specs.List.{range_with_len}
use Rattle.range_marks.specs.Decisions.{scan_verdict}
use Rattle.range_marks.proofs.decisions.decide_all.Given as goal

abbrev pub invariant-loop-place : goal.invariant-loop-place
invariant-loop-place l = l.verdicts.items ≡ map (scan_verdict l.rule l.numbered l.counts) (range_with_len 1 l.place)
