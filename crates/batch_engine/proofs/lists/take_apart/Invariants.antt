use Rattle.std.proofs.Common.{◌≡◌, ◌++◌, map, length}
use Rattle.std.specs.Vec.Iter.{into_iter_items}
use Rattle.batch_engine.specs.Lists.{sets_in, waiting_among, counting}
use Rattle.batch_engine.proofs.lists.take_apart.Given as goal

abbrev pub invariant-loop-request : goal.invariant-loop-request
invariant-loop-request l =
    (goal.iterator-loop-request).can_next l.request-iterator ×
    (goal.iterator-loop-request).is_finite l.request-iterator ×
    (length (into_iter_items l.outcomes) ≡ length (into_iter_items l.request-iterator)) ×
    (length l.rest ≡ length (into_iter_items l.request-iterator)) ×
    (l.waiting.items ++ waiting_among (into_iter_items l.request-iterator) (map sets_in (into_iter_items l.outcomes)) l.rest
    ≡ waiting_among (into_iter_items l.initial.request-iterator) (map sets_in (into_iter_items l.initial.outcomes)) l.initial.rest) ×
    (l.changes.items ++ counting (map (λ o. o.writes) (into_iter_items l.outcomes)) l.rest
    ≡ counting (map (λ o. o.writes) (into_iter_items l.initial.outcomes)) l.initial.rest) ×
    (l.ends.items ++ map (λ o. o.end) (into_iter_items l.outcomes) ≡ map (λ o. o.end) (into_iter_items l.initial.outcomes))
