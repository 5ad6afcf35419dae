use Rattle.std.proofs.Common.{◌≡◌, map, take}
use Rattle.proc_lang.specs.TermOf.{term_of}
use Rattle.proc_lang.proofs.expressions.ExprsDuplicate.duplicate.Given as goal

abbrev pub invariant-loop-item : goal.invariant-loop-item
invariant-loop-item l = map term_of l.copy.items ≡ map term_of (take l.item-index l.item-items)
