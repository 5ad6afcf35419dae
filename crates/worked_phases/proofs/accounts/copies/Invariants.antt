use Rattle.std.proofs.Common.{◌≡◌, length}
use Rattle.worked_phases.proofs.accounts.copies.Given as goal

abbrev pub invariant-loop-place : goal.invariant-loop-place
invariant-loop-place l = length l.list.items ≡ l.place
