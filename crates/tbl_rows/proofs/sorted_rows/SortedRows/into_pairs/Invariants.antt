use Rattle.std.proofs.Common.{◌≡◌, ◌++◌}
use Rattle.std.specs.FinMap as fin
use Rattle.tbl_rows.proofs.sorted_rows.SortedRows.into_pairs.Given as goal

abbrev pub invariant-loop-key : goal.invariant-loop-key
invariant-loop-key l = l.pairs.items ++ l.key-iterator ≡ fin.entries l.fn.self
