use Rattle.std.proofs.Common.{refl}
use Rattle.tbl_rows.proofs.Trees.{copied-more, from_entries-copied}
use Rattle.tbl_rows.proofs.sorted_rows.SortedRowsDuplicate.duplicate.Goals as goal

pub loop-key-preserved-in_ok-insert : goal.loop-key-preserved-in_ok-insert
loop-key-preserved-in_ok-insert c = copied-more _ _ _ _ _ _ _ _ c.loop-key.invariant c.in-Some.ensures.steps c.in_ok-duplicate.ensures
    c.in_ok-duplicate-2.ensures c.in_ok-insert.ensures.updates.0

pub loop-key-preserved : goal.loop-key-preserved
loop-key-preserved c = copied-more _ _ _ _ _ _ _ _ c.loop-key.invariant c.in-Some.ensures.steps c.in_ok-duplicate.ensures c.in_ok-duplicate-2.ensures
    c.in_ok-insert.ensures.updates.0

pub returns : goal.returns
returns c =
    let given = c.into_iter-key-iterator.ensures.into_iter_gives in
    rw (← c.self.view_is, from_entries-copied _ _ _ given.5 (rw given.0 at c.loop-key.invariant) c.in-None.ensures.steps.0) refl
