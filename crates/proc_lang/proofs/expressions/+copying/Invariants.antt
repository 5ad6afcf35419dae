use Rattle.std.proofs.Common.{◌+◌, ◌*◌}
use Rattle.proc_lang.specs.Terms.{term_size}
use Rattle.proc_lang.specs.TermOf.{term_of}
use Rattle.proc_lang.proofs.expressions.+copying.Given as goal

abbrev pub decreases-copy_expr : goal.decreases-copy_expr
decreases-copy_expr l = 2 * term_size (term_of l.expr.now)

abbrev pub decreases-copy_box : goal.decreases-copy_box
decreases-copy_box l = 2 * term_size (term_of l.expr.now) + 1
