use Rattle.tbl_rows.specs.Shards.{IsWhole}
use Rattle.worked_rows.proofs.rows.shards_are_changed_apart_and_gathered.Given as goal

abbrev pub invariant-loop-number : goal.invariant-loop-number
invariant-loop-number g l = IsWhole l.shards.items
