use Rattle.std.proofs.Common.{◌≡◌, ◌≤◌, ◌++◌, length, map, drop, vec_len}
use Rattle.row_batons.proofs.windows.put_back.Given as goal

abbrev pub invariant-loop-write : goal.invariant-loop-write
invariant-loop-write l =
    (map (λ w. w.1) l.writes.items ++ drop (length l.writes.items) l.rows.items ≡ map (λ w. w.1) l.initial.writes.items)
    × (length l.writes.items ≤ length l.rows.items)

abbrev pub decreases-loop-write : goal.decreases-loop-write
decreases-loop-write l = vec_len l.writes
