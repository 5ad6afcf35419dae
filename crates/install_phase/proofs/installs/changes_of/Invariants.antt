use Rattle.std.proofs.Common.{◌≡◌, ◌++◌, map}
use Rattle.std.specs.Vec.Iter.{into_iter_items}
use Rattle.install_phase.proofs.installs.changes_of.Given as goal

abbrev pub invariant-loop-outcome : goal.invariant-loop-outcome
invariant-loop-outcome l =
    (goal.iterator-loop-outcome).can_next l.outcome-iterator ×
    (goal.iterator-loop-outcome).is_finite l.outcome-iterator ×
    (l.list.items ++ map (λ o. o.writes) (into_iter_items l.outcome-iterator) ≡ map (λ o. o.writes) (into_iter_items l.initial.outcome-iterator))
