use Rattle.std.proofs.Common.{refl, rules}
use Rattle.aria_base.proofs.Trees.{from_entries-insert}
use Rattle.tbl_rows.proofs.sorted_rows.SortedRows.put.Goals as goal
use Rattle.tbl_rows.proofs.sorted_rows.SortedRows.put.Goals.{in-Ok, in-Err}

pub returns-clause-put : goal.returns-clause-put
returns-clause-put c = elim c.match-insert.branch [
  | in-Ok w ↦ rw (w.result-is, ← c.self.view_is, from_entries-insert _ _ _ _ w.in-Ok.ensures.updates.0) refl
  | in-Err w ↦ search rules
]
