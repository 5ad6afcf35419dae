use Rattle.std.proofs.Common.{◌≡◌, drop}
use Rattle.std.specs.Cmp.Lexicographic.{pointwise}
use Rattle.proc_lang.specs.Typing.{same_kind}
use Rattle.proc_verify.proofs.accesses.same_kinds.Given as goal

abbrev pub invariant-loop-at : goal.invariant-loop-at
invariant-loop-at l = pointwise same_kind (drop l.at l.kinds) (drop l.at l.takes) ≡ pointwise same_kind l.kinds l.takes
