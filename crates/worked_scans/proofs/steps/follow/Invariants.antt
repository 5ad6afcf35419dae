use Rattle.std.proofs.Common.{◌≡◌, [], drop}
use Rattle.worked_scans.specs.Steps.{after}
use Rattle.worked_scans.proofs.steps.follow.Given as goal

abbrev pub invariant-loop-one : goal.invariant-loop-one
invariant-loop-one l = after l.steps l.found.items (drop l.one-index l.seen) ≡ after l.nums [] l.seen
