use Rattle.std.proofs.Common.{◌≡◌, ◌≤◌, drop}
use Rattle.range_rules.specs.Walks.{follow}
use Rattle.tpcc_routines.specs.Routines.{counted}
use Rattle.tpcc_routines.proofs.levels.count.Given as goal

abbrev pub invariant-loop-item : goal.invariant-loop-item
invariant-loop-item l = (follow (counted l.at l.t l.count (drop l.item-index l.items)) l.left ≡ follow (counted l.at l.t 0 l.items) l.fn.seen)
    × (l.count ≤ l.item-index)
