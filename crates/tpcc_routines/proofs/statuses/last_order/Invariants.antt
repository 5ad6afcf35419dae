use Rattle.std.proofs.Common.{◌≡◌, drop, None}
use Rattle.tpcc_routines.specs.Routines.{last_order}
use Rattle.tpcc_routines.proofs.statuses.last_order.Given as goal

abbrev pub invariant-loop-key : goal.invariant-loop-key
invariant-loop-key l = last_order l.c l.found (drop l.key-index l.orders) ≡ last_order l.c None l.orders
