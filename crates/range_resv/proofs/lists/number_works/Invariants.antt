use Rattle.std.proofs.Common.{◌≡◌, ◌+◌, ◌++◌, length}
use Rattle.std.specs.Vec.Iter.{into_iter_items}
use Rattle.range_rules.specs.Batches.{numbered}
use Rattle.range_resv.proofs.lists.number_works.Given as goal

abbrev pub invariant-loop-work : goal.invariant-loop-work
invariant-loop-work l =
    (goal.iterator-loop-work).can_next l.work-iterator ×
    (goal.iterator-loop-work).is_finite l.work-iterator ×
    (l.q + length (into_iter_items l.work-iterator) ≡ l.requests + length (into_iter_items l.initial.work-iterator)) ×
    (l.list.items ++ numbered l.q (into_iter_items l.work-iterator)
    ≡ l.initial.list.items ++ numbered l.requests (into_iter_items l.initial.work-iterator))
