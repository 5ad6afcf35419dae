use Rattle.std.proofs.Common.{◌≡◌, ◌≤◌, ◌+◌, ◌++◌, length, not}
use Rattle.std.specs.List.{filter}
use Rattle.std.specs.Vec.{vec_len, vec_capacity}
use Rattle.std.specs.Vec.Iter.{into_iter_items}
use Rattle.tbl_rows.specs.Pools.{is_moved}
use Rattle.tbl_rows.proofs.more_rows.MoreRows.split.Given as goal

abbrev pub invariant-loop-entry : goal.invariant-loop-entry
invariant-loop-entry l =
    (goal.iterator-loop-entry).can_next l.entry-iterator ×
    (goal.iterator-loop-entry).is_finite l.entry-iterator ×
    (l.moved.items ++ filter (λ e. is_moved l.level l.count e.0) (into_iter_items l.entry-iterator) ≡ filter (λ e. is_moved l.level l.count e.0)
    (into_iter_items l.initial.entry-iterator)) ×
    (l.stay.items ++ filter (λ e. not (is_moved l.level l.count e.0)) (into_iter_items l.entry-iterator) ≡ filter (λ e. not (is_moved l.level l.count e.0))
    (into_iter_items l.initial.entry-iterator)) ×
    (vec_len l.moved + length (filter (λ e. is_moved l.level l.count e.0) (into_iter_items l.entry-iterator)) ≤ vec_capacity l.moved) ×
    (vec_len l.stay + length (filter (λ e. not (is_moved l.level l.count e.0)) (into_iter_items l.entry-iterator)) ≤ vec_capacity l.stay)
