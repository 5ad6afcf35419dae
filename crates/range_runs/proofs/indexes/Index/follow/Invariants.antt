use Rattle.std.proofs.Common.{◌≡◌, ◌-◌, drop}
use Rattle.range_runs.specs.Indexes.{followed}
use Rattle.range_runs.proofs.indexes.Index.follow.Given as goal

abbrev pub invariant-loop-behind : goal.invariant-loop-behind
invariant-loop-behind l = l.self ≡ followed l.initial.self (drop (l.count - l.behind) l.writes)
