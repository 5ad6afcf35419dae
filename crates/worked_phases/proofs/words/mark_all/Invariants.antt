use Rattle.std.proofs.Common.{◌≡◌}
use Rattle.worked_phases.proofs.words.mark_all.Given as goal

abbrev pub invariant-loop-step : goal.invariant-loop-step
invariant-loop-step l = (l.seat.table ≡ l.words.table) × (l.seat.share ≡ l.fn.seat.share)
