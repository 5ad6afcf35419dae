use Rattle.std.proofs.Common.{◌≡◌, true}
use Rattle.std.specs.List.{All}
use Rattle.range_suits.specs.Suits.{is_taken}
use Rattle.example_scans.specs.Orders.{has_customer}
use Rattle.example_scans.proofs.works_for.Given as goal

abbrev pub invariant-loop-numbers : goal.invariant-loop-numbers
invariant-loop-numbers l = All (λ work. is_taken l.engine.plan has_customer work ≡ true) l.works.items
