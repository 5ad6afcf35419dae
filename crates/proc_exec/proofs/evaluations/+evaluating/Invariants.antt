use Rattle.std.proofs.Common.{◌+◌, ◌*◌}
use Rattle.proc_lang.specs.Terms.{term_size}
use Rattle.proc_lang.specs.TermOf.{term_of}
use Rattle.proc_exec.proofs.evaluations.+evaluating.Given as goal

abbrev pub decreases-eval : goal.decreases-eval
decreases-eval l = 4 * term_size (term_of l.expr.now) + 1

abbrev pub decreases-eval_shape : goal.decreases-eval_shape
decreases-eval_shape l = 4 * term_size (term_of l.expr.now)

abbrev pub decreases-eval_both : goal.decreases-eval_both
decreases-eval_both l = 4 * (term_size (term_of l.first.now) + term_size (term_of l.second.now)) + 2
