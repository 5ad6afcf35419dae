use Rattle.std.proofs.Common.{◌≡◌, take}
use Rattle.resv_phase.specs.Marked.{marks_on, with_marks}
use Rattle.resv_phase.proofs.marks.mark_on.Given as goal

abbrev pub invariant-loop-key : goal.invariant-loop-key
invariant-loop-key g l = l.seat ≡ with_marks l.initial.seat (marks_on l.tid l.writes (take l.key-index l.keys))
