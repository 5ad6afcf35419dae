use Rattle.std.proofs.Common.{◌≡◌, drop}
use Rattle.std.specs.FinMap as fin
use Rattle.batch_rules.specs.Touches.{keys_of}
use Rattle.range_runs.specs.Indexes.{with_keys}
use Rattle.range_runs.proofs.indexes.Index.of_writes.Given as goal

abbrev pub invariant-loop-key : goal.invariant-loop-key
invariant-loop-key l = with_keys l.index (keys_of (drop l.key-index l.writes)) ≡ with_keys fin.empty (keys_of l.writes)
