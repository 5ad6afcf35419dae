use Rattle.std.specs.Prelude.{◌≤◌}
use Rattle.std.specs.Vec.Iter.{into_iter_items}
use Rattle.aria_store.specs.Stands.{batches_in}
use Rattle.store_commands.proofs.Replayed.{IsOnWay}
use Rattle.store_commands.proofs.steps.answer_all.Given as goal

abbrev pub invariant-loop-logged : goal.invariant-loop-logged
invariant-loop-logged g l =
    (goal.iterator-loop-logged g).can_next l.logged-iterator ×
    (goal.iterator-loop-logged g).is_finite l.logged-iterator ×
    IsOnWay l.initial.live (batches_in (into_iter_items l.initial.logged-iterator)) (g.K.Sink.given l.initial.out) l.live l.place (g.K.Sink.given l.out)
    (batches_in (into_iter_items l.logged-iterator)) ×
    (g.K.Sink.faults l.initial.out ≤ g.K.Sink.faults l.out)
