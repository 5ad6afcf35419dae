use Rattle.std.proofs.Common.{◌≡◌, ◌++◌}
use Rattle.std.specs.Vec.Iter.{into_iter_items}
use Rattle.batch_rules.specs.Touches.{keys_of}
use Rattle.batch_engine.proofs.lists.keys_in.Given as goal

abbrev pub invariant-loop-change : goal.invariant-loop-change
invariant-loop-change l =
    (goal.iterator-loop-change).can_next l.change-iterator ×
    (goal.iterator-loop-change).is_finite l.change-iterator ×
    (l.keys.items ++ keys_of (into_iter_items l.change-iterator) ≡ keys_of (into_iter_items l.initial.change-iterator))
