use Rattle.std.proofs.Common.{◌≡◌, ℕ, ◌<◌, true}
use Rattle.core_machine.specs.Kinds.{event_at, is_in}
use Rattle.core_machine.proofs.kinds.has_each.Given as goal

abbrev pub invariant-loop-place : goal.invariant-loop-place
invariant-loop-place l = (p : ℕ) → p < l.place → is_in l.came (event_at l.kind l.tid p) ≡ true
