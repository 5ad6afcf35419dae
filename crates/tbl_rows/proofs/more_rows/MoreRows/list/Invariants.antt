use Rattle.std.proofs.Common.{◌≡◌, ◌++◌, map, drop}
use Rattle.std.specs.Map.Iter.{deref_pair}
use Rattle.tbl_rows.proofs.more_rows.MoreRows.list.Given as goal

abbrev pub invariant-loop-entry : goal.invariant-loop-entry
invariant-loop-entry l = map deref_pair l.out.items ++ drop l.entry-index l.entry-items ≡ map deref_pair l.initial.out.items ++ l.entry-items
