use Rattle.std.proofs.Common.{◌≡◌, ℕ}
use Rattle.std.specs.Vec.Iter.{into_iter_items}
use Rattle.install_phase.specs.Installs.{after_changes}
use Rattle.install_phase.proofs.puts.put_finishing.Given as goal

abbrev pub invariant-loop-changes : goal.invariant-loop-changes
invariant-loop-changes g l =
    (goal.iterator-loop-changes g).can_next l.changes-iterator ×
    (goal.iterator-loop-changes g).is_finite l.changes-iterator ×
    ((next : ℕ) × (after_changes next l.tables (into_iter_items l.changes-iterator) l.rest
    ≡ after_changes 1 l.initial.tables (into_iter_items l.initial.changes-iterator) l.initial.rest))
