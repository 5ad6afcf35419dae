use Rattle.std.proofs.Common.{◌≡◌, map, drop}
use Rattle.proc_lang.specs.TermOf.{term_of}
use Rattle.proc_lang.specs.Typing.{kinds_after}
use Rattle.proc_verify.specs.Scopes.{seen}
use Rattle.proc_verify.proofs.expressions.kinds_after.Given as goal

abbrev pub invariant-loop-expr : goal.invariant-loop-expr
invariant-loop-expr l = kinds_after (seen l.scope) l.set l.kinds.items (map term_of (drop l.expr-index l.expr-items)) ≡ kinds_after
    (seen l.scope) l.set l.initial.kinds.items l.exprs
