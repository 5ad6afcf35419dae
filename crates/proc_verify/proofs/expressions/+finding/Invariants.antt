use Rattle.std.proofs.Common.{◌+◌, ◌*◌}
use Rattle.proc_lang.specs.Terms.{term_size}
use Rattle.proc_lang.specs.TermOf.{term_of}
use Rattle.proc_verify.proofs.expressions.+finding.Given as goal

abbrev pub decreases-kind_of : goal.decreases-kind_of
decreases-kind_of l = 2 * term_size (term_of l.expr.now)

abbrev pub decreases-two_kinds : goal.decreases-two_kinds
decreases-two_kinds l = 2 * (term_size (term_of l.a.now) + term_size (term_of l.b.now)) + 1
