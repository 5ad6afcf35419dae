use Rattle.std.proofs.Common.{◌+◌, ◌*◌}
use Rattle.proc_lang.specs.Terms.{term_size}
use Rattle.proc_lang.specs.TermOf.{term_of}
use Rattle.cat_write.proofs.term_writers.+writing.Given as goal

abbrev pub decreases-write_expr : goal.decreases-write_expr
decreases-write_expr l = 2 * term_size (term_of l.expr.now)

abbrev pub decreases-unary : goal.decreases-unary
decreases-unary l = 2 * term_size (term_of l.x.now) + 1

abbrev pub decreases-binary : goal.decreases-binary
decreases-binary l = 2 * (term_size (term_of l.x.now) + term_size (term_of l.y.now)) + 1

abbrev pub decreases-mul_div : goal.decreases-mul_div
decreases-mul_div l = 2 * (term_size (term_of l.x.now) + term_size (term_of l.y.now) + term_size (term_of l.z.now)) + 1

abbrev pub decreases-front : goal.decreases-front
decreases-front l = 2 * (term_size (term_of l.x.now) + term_size (term_of l.y.now)) + 1
