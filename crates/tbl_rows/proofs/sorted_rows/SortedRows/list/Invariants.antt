use Rattle.std.proofs.Common.{◌≡◌, ◌++◌, map}
use Rattle.std.specs.Map.Iter.{deref_pair}
use Rattle.std.specs.FinMap as fin
use Rattle.tbl_rows.proofs.sorted_rows.SortedRows.list.Given as goal

abbrev pub invariant-loop-key : goal.invariant-loop-key
invariant-loop-key l = map deref_pair l.out.items ++ l.key-iterator ≡ map deref_pair l.initial.out.items ++ fin.entries l.self
