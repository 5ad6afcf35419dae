use Rattle.std.proofs.Common.{◌+◌, ◌*◌}
use Rattle.worked_phases.proofs.claims.+draw_by+fn-draw_by-join+arg3.Given as goal

abbrev pub decreases-join+arg3 : goal.decreases-join+arg3
decreases-join+arg3 g l = 2 * l.fewer + 1

abbrev pub decreases-draw_by : goal.decreases-draw_by
decreases-draw_by g l = 2 * l.others
