use Rattle.std.proofs.Common.{◌≡◌, ℤ, drop}
use Rattle.range_rules.specs.Walks.{Walk, follow}
use Rattle.tpcc_routines.specs.Routines.{each_dated, all_dated}
use Rattle.tpcc_routines.proofs.deliveries.each_dated.Given as goal

abbrev pub invariant-loop-key : goal.invariant-loop-key
invariant-loop-key l = (next : ℤ → Walk)
    → follow (each_dated l.what.date l.amount (drop l.key-index l.lines) next) l.left ≡ follow (all_dated l.what.date l.lines next) l.fn.seen
