use Rattle.tbl_rows.proofs.Trees.{WillCopy}
use Rattle.tbl_rows.proofs.sorted_rows.SortedRowsDuplicate.duplicate.Given as goal

abbrev pub invariant-loop-key : goal.invariant-loop-key
invariant-loop-key l = WillCopy l.rows.entries l.key-iterator l.initial.key-iterator
