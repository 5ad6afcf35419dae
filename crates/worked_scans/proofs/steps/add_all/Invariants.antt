use Rattle.std.proofs.Common.{◌≡◌, ◌++◌, drop}
use Rattle.worked_scans.specs.Steps.{told}
use Rattle.worked_scans.proofs.steps.add_all.Given as goal

abbrev pub invariant-loop-entry : goal.invariant-loop-entry
invariant-loop-entry l = l.found.items ++ told (drop l.entry-index l.rows) ≡ l.fn.found.items ++ told l.rows
