use Rattle.std.proofs.Common.{◌≡◌, ℕ, ◌+◌}
use Rattle.range_rules.specs.Walks.{follow}
use Rattle.tpcc_load.specs.declared.districts.TheConstants.{DISTRICTS_EACH}
use Rattle.tpcc_routines.specs.Routines.{deliveries, delivery}
use Rattle.tpcc_routines.proofs.deliveries.delivery.Given as goal

abbrev pub invariant-loop-district : goal.invariant-loop-district
invariant-loop-district l = (n : ℕ) → n + l.district ≡ DISTRICTS_EACH
    → follow (deliveries l.what n l.district l.orders.items) l.left ≡ follow (delivery l.what) l.fn.seen
