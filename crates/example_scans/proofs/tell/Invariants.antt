use Rattle.std.proofs.Common.{◌≡◌, ◌++◌, drop}
use Rattle.example_scans.specs.Orders.{told}
use Rattle.example_scans.proofs.tell.Given as goal

abbrev pub invariant-loop-order : goal.invariant-loop-order
invariant-loop-order l = l.values.items ++ told (drop l.order-index l.rows) ≡ told l.rows
