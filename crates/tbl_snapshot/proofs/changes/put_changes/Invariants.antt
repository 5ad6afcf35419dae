use Rattle.std.proofs.Common.{◌≡◌, vec_len}
use Rattle.batch_rules.specs.Touches.{overwritten}
use Rattle.tbl_snapshot.proofs.changes.put_changes.Given as goal

abbrev pub invariant-loop-key : goal.invariant-loop-key
invariant-loop-key l = overwritten l.tables l.changes.items ≡ overwritten l.initial.tables l.initial.changes.items

abbrev pub decreases-loop-key : goal.decreases-loop-key
decreases-loop-key l = vec_len l.changes
