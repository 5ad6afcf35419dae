use Rattle.std.proofs.Common.{◌≡◌, ◌<◌, length}
use Rattle.std.specs.List.{All}
use Rattle.std.specs.Vec.Iter.{into_iter_items}
use Rattle.batch_rules.specs.Touches.{installed}
use Rattle.fallback_locks.specs.Reruns.{filled}
use Rattle.fallback_locks.proofs.settlements.settle.Given as goal

abbrev pub invariant-loop-done : goal.invariant-loop-done
invariant-loop-done l =
    (goal.iterator-loop-done).can_next l.done-iterator ×
    (goal.iterator-loop-done).is_finite l.done-iterator ×
    (installed (λ d. d.rows) l.tables (into_iter_items l.done-iterator) ≡ installed (λ d. d.rows) l.fn.tables l.fn.dones.items) ×
    (filled l.lates.items (into_iter_items l.done-iterator) ≡ filled l.fn.lates.items l.fn.dones.items) ×
    All (λ d. d.place < length l.lates.items) (into_iter_items l.done-iterator)
