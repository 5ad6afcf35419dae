use Rattle.std.proofs.Common.{◌≡◌, ◌≤◌, length, drop}
use Rattle.batch_rules.specs.Touches.{overwritten}
use Rattle.node_batch.proofs.endings.install.Given as goal

abbrev pub invariant-writes : goal.invariant-writes
invariant-writes l = record {
  within : l.place ≤ length l.writes;
  so_far : l.rows ≡ overwritten l.initial.rows (drop l.place l.writes);
}

abbrev pub decreases-writes : goal.decreases-writes
decreases-writes l = l.place
