use Rattle.std.proofs.Common.{◌+◌, ◌*◌}
use Rattle.worked_phases.proofs.words.+fn-mark_by-join+arg3+mark_by.Given as goal

abbrev pub decreases-join+arg3 : goal.decreases-join+arg3
decreases-join+arg3 g l = 2 * l.fewer + 1

abbrev pub decreases-mark_by : goal.decreases-mark_by
decreases-mark_by g l = 2 * l.last
