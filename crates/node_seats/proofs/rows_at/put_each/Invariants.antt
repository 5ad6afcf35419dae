use Rattle.std.proofs.Common.{◌≡◌, ◌≤◌, length, drop, map}
use Rattle.std.specs.Prelude.{◌==◌}
use Rattle.std.specs.Map.Iter.{deref_pair}
use Rattle.node_batch.specs.Mails.{node_of}
use Rattle.node_seats.specs.RowsAt.{put_all}
use Rattle.node_seats.proofs.rows_at.put_each.Given as goal

abbrev pub invariant-rows : goal.invariant-rows
invariant-rows l = record {
  within : l.place ≤ length l.fn.rows;
  so_far : l.into ≡ put_all (λ k. node_of l.nodes k == l.fn.node) l.initial.into (map deref_pair (drop l.place l.fn.rows));
}

abbrev pub decreases-rows : goal.decreases-rows
decreases-rows l = l.place
