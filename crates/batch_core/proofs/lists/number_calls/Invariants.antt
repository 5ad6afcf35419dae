use Rattle.std.proofs.Common.{◌≡◌, ◌+◌, ◌++◌, length}
use Rattle.std.specs.Vec.Iter.{into_iter_items}
use Rattle.batch_core.specs.Steps.{numbered}
use Rattle.batch_core.proofs.lists.number_calls.Given as goal

abbrev pub invariant-loop-call : goal.invariant-loop-call
invariant-loop-call l =
    (goal.iterator-loop-call).can_next l.call-iterator ×
    (goal.iterator-loop-call).is_finite l.call-iterator ×
    (l.q + length (into_iter_items l.call-iterator) ≡ l.requests + length (into_iter_items l.initial.call-iterator)) ×
    (length l.list.items + length (into_iter_items l.call-iterator) ≡ length l.initial.list.items + length (into_iter_items l.initial.call-iterator)) ×
    (l.list.items ++ numbered l.q (into_iter_items l.call-iterator) ≡ l.initial.list.items ++ numbered l.requests (into_iter_items l.initial.call-iterator))
