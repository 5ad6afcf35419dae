use Rattle.std.proofs.Common.{◌+◌, ◌-◌, ◌*◌}
use Rattle.cat_read.proofs.terms.+reading.Given as goal

abbrev pub decreases-read_expr : goal.decreases-read_expr
decreases-read_expr l = 8 * (17 - l.level) + 6

abbrev pub decreases-read_node : goal.decreases-read_node
decreases-read_node l = 8 * (17 - l.level) + 5

abbrev pub decreases-read_form : goal.decreases-read_form
decreases-read_form l = 8 * (17 - l.level) + 4

abbrev pub decreases-read_one : goal.decreases-read_one
decreases-read_one l = 8 * (17 - l.level) + 3

abbrev pub decreases-read_two : goal.decreases-read_two
decreases-read_two l = 8 * (17 - l.level) + 3

abbrev pub decreases-read_three : goal.decreases-read_three
decreases-read_three l = 8 * (17 - l.level) + 3

abbrev pub decreases-read_both : goal.decreases-read_both
decreases-read_both l = 8 * (17 - l.level) + 2

abbrev pub decreases-read_operand : goal.decreases-read_operand
decreases-read_operand l = 8 * (17 - l.level)
