use Rattle.std.proofs.Common.{◌≡◌, map, drop, length}
use Rattle.proc_lang.specs.TermOf.{term_of}
use Rattle.proc_lang.specs.Meaning.{values_after, values_of}
use Rattle.proc_exec.proofs.evaluations.eval_all.Given as goal

abbrev pub invariant-loop-expr : goal.invariant-loop-expr
invariant-loop-expr l = (values_after l.scope.request.now l.scope.item.now l.registers.items l.values.items
    (map term_of (drop l.expr-index l.expr-items)) ≡ values_of l.scope.request.now l.scope.item.now l.registers.items l.exprs)
    × (length l.values.items ≡ l.expr-index)
