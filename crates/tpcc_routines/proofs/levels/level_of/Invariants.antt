use Rattle.std.proofs.Common.{◌≡◌, ℕ, ◌+◌}
use Rattle.range_rules.specs.Walks.{follow}
use Rattle.tpcc_routines.specs.Routines.{level_of, last_level}
use Rattle.tpcc_routines.proofs.levels.level_of.Given as goal

abbrev pub invariant-loop-turn : goal.invariant-loop-turn
invariant-loop-turn l = (n : ℕ) → n + l.turn ≡ 20 → follow (level_of l.at l.t l.next n l.items.keys) l.left ≡ follow (last_level l.at l.t l.next) l.fn.seen
