use Rattle.std.proofs.Common.{◌≡◌, ℕ, ◌+◌, ◌<◌}
use Rattle.core_machine.specs.Cores.{AllCameOf}
use Rattle.core_machine.proofs.cores.Core.has_all.Given as goal

abbrev pub invariant-loop-place : goal.invariant-loop-place
invariant-loop-place l = (p : ℕ) → p < l.place → AllCameOf l.self (p + 1)
