use Rattle.std.proofs.Common.{◌≡◌, ◌++◌, map}
use Rattle.std.specs.List.{filter}
use Rattle.std.specs.FinMap as fin
use Rattle.range_rules.specs.Scans.{is_under}
use Rattle.range_runs.proofs.Ranges.{front_under}
use Rattle.range_runs.proofs.indexes.Index.under.Given as goal

abbrev pub invariant-loop-key : goal.invariant-loop-key
invariant-loop-key l =
    (goal.iterator-loop-key).can_next l.key-iterator ×
    (goal.iterator-loop-key).is_finite l.key-iterator ×
    (map (λ k. k.now) l.keys.items ++ front_under l.prefix l.key-iterator ≡ filter (is_under l.prefix) (fin.keys l.self))
