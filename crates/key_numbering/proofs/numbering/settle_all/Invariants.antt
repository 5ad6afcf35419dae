use Rattle.std.proofs.Common.{◌≡◌, [], map, All}
use Rattle.std.specs.Vec.Iter.{into_iter_items}
use Rattle.key_numbering.specs.Lookups.{settled_all, HasBothPlaces}
use Rattle.key_numbering.proofs.numbering.settle_all.Given as goal

abbrev pub invariant-loop-found : goal.invariant-loop-found
invariant-loop-found l =
    goal.iterator-loop-found.can_next l.found-iterator ×
    goal.iterator-loop-found.is_finite l.found-iterator ×
    All HasBothPlaces (into_iter_items l.found-iterator) ×
    (settled_all (l.kept, (map (λ v. v.items) l.reads.items, map (λ v. v.items) l.writes.items)) (into_iter_items l.found-iterator) ≡ settled_all
    (l.initial.kept, ([], [])) (into_iter_items l.initial.found-iterator))
