use Rattle.std.proofs.Common.{◌≡◌, ◌++◌, drop, map, None}
use Rattle.core_machine.proofs.event_runs.none_ran.Given as goal

abbrev pub invariant-loop-request : goal.invariant-loop-request
invariant-loop-request l = l.outcomes.items ++ map (λ request. None) (drop l._request-index l.list) ≡ map (λ request. None) l.list
