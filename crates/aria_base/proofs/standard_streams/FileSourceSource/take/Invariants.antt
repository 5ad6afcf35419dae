use Rattle.std.proofs.Common.{◌≡◌}
use Rattle.aria_base.proofs.standard_streams.FileSourceSource.take.Given as goal

abbrev pub invariant-loop : goal.invariant-loop
invariant-loop g l = l.self.faults ≡ l.initial.self.faults
