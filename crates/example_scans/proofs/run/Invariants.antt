use Rattle.std.proofs.Common.{◌≡◌, true}
use Rattle.std.specs.List.{All}
use Rattle.range_suits.specs.Suits.{is_taken}
use Rattle.example_scans.specs.Orders.{HasOrders, has_customer}
use Rattle.example_scans.proofs.run.Given as goal

abbrev pub invariant-loop-asked : goal.invariant-loop-asked
invariant-loop-asked g l = record {
  has : HasOrders l.engine.plan.tables;
  taken : All (λ w. is_taken l.engine.plan has_customer w.work ≡ true) l.engine.carried;
}
