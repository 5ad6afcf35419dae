use Rattle.std.proofs.Common.{◌≡◌, ◌-◌, drop}
use Rattle.range_runs.specs.Windows.{written_under}
use Rattle.range_runs.proofs.overlays.make_all.Given as goal

abbrev pub invariant-loop-behind : goal.invariant-loop-behind
invariant-loop-behind l = l.found ≡ written_under l.prefix l.initial.found (drop (l.count - l.behind) l.writes)
