use Rattle.key_numbering.proofs.Settling.{IsFoundUpTo}
use Rattle.key_numbering.proofs.numbering.find_all.Given as goal

abbrev pub invariant-loop-set : goal.invariant-loop-set
invariant-loop-set l = IsFoundUpTo l.kept l.sets l.all.items l.set-index
