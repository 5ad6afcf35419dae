use Rattle.std.proofs.Common.{◌+◌, ◌*◌}
use Rattle.proc_lang.specs.Terms.{term_size}
use Rattle.proc_lang.specs.TermOf.{term_of}
use Rattle.proc_exec.proofs.operands.+counting.Given as goal

abbrev pub decreases-number_of : goal.decreases-number_of
decreases-number_of l = 3 * term_size (term_of l.expr.now) + 1

abbrev pub decreases-number_of_two : goal.decreases-number_of_two
decreases-number_of_two l = 3 * term_size (term_of l.expr.now)

abbrev pub decreases-numbers_of : goal.decreases-numbers_of
decreases-numbers_of l = 3 * (term_size (term_of l.first.now) + term_size (term_of l.second.now)) + 2

abbrev pub decreases-equal : goal.decreases-equal
decreases-equal l = 3 * (term_size (term_of l.first.now) + term_size (term_of l.second.now)) + 2
