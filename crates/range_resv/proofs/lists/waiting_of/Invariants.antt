use Rattle.std.proofs.Common.{◌≡◌, ◌++◌}
use Rattle.std.specs.Vec.Iter.{into_iter_items}
use Rattle.range_resv.specs.Lists.{waiting_among}
use Rattle.range_resv.proofs.lists.waiting_of.Given as goal

abbrev pub invariant-loop-work : goal.invariant-loop-work
invariant-loop-work l =
    (goal.iterator-loop-work).can_next l.work-iterator ×
    (goal.iterator-loop-work).is_finite l.work-iterator ×
    (l.waiting.items ++ waiting_among (into_iter_items l.work-iterator) l.rest ≡ waiting_among (into_iter_items l.initial.work-iterator) l.initial.rest)
