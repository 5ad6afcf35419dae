use Rattle.std.proofs.Common.{sym, ◌∙◌}
use Rattle.aria_base.proofs.Trees.{entries-from_entries}
use Rattle.tbl_rows.proofs.sorted_rows.SortedRows.into_pairs.Goals as goal

pub loop-key-init : goal.loop-key-init
loop-key-init c =
    let given = c.into_iter-key-iterator.ensures.into_iter_gives in
    rw (← c.self.view_is, c.new-pairs.ensures.items) (given.0 ∙ sym (entries-from_entries _ given.5))
