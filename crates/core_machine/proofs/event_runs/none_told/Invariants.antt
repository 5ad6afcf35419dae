use Rattle.std.proofs.Common.{◌≡◌, length}
use Rattle.core_machine.proofs.event_runs.none_told.Given as goal

abbrev pub invariant-loop-request : goal.invariant-loop-request
invariant-loop-request l = length l.verdicts.items ≡ l._request-index
