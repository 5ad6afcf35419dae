use Rattle.std.proofs.Common.{◌≡◌, ◌++◌, map}
use Rattle.std.specs.Vec.Iter.{into_iter_items}
use Rattle.range_resv.proofs.lists.take_apart.Given as goal

abbrev pub invariant-loop-ran : goal.invariant-loop-ran
invariant-loop-ran l =
    (goal.iterator-loop-ran).can_next l.ran-iterator ×
    (goal.iterator-loop-ran).is_finite l.ran-iterator ×
    (l.changes.items ++ map (λ ran. ran.writes) (into_iter_items l.ran-iterator) ≡ map (λ ran. ran.writes) (into_iter_items l.initial.ran-iterator)) ×
    (l.ends.items ++ map (λ ran. ran.end) (into_iter_items l.ran-iterator) ≡ map (λ ran. ran.end) (into_iter_items l.initial.ran-iterator))
