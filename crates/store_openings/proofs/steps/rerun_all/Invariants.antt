use Rattle.std.specs.Vec.Iter.{into_iter_items}
use Rattle.aria_store.specs.Stands.{batches_in}
use Rattle.store_openings.proofs.Ways.{IsOnWay}
use Rattle.store_openings.proofs.steps.rerun_all.Given as goal

abbrev pub invariant-loop-logged : goal.invariant-loop-logged
invariant-loop-logged g l =
    (goal.iterator-loop-logged g).can_next l.logged-iterator ×
    (goal.iterator-loop-logged g).is_finite l.logged-iterator ×
    IsOnWay l.initial.live (batches_in (into_iter_items l.initial.logged-iterator)) l.live l.place (batches_in (into_iter_items l.logged-iterator))
