use Rattle.tbl_rows.proofs.Together.{AllBare}
use Rattle.tbl_rows.proofs.tables.Tables.new.Given as goal

abbrev pub invariant-loop-number : goal.invariant-loop-number
invariant-loop-number l = AllBare l.number l.shards.items
