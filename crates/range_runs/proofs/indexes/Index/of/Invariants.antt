use Rattle.std.proofs.Common.{◌≡◌, map, drop}
use Rattle.std.specs.Map.Iter.{deref_pair}
use Rattle.std.specs.FinMap as fin
use Rattle.range_runs.specs.Indexes.{with_keys}
use Rattle.range_runs.proofs.indexes.Index.of.Given as goal

abbrev pub invariant-loop-key : goal.invariant-loop-key
invariant-loop-key l = with_keys l.index (map (λ e. e.0) (map deref_pair (drop l.key-index l.key-items))) ≡ with_keys fin.empty (fin.keys l.tables)
