use Rattle.std.proofs.Common.{◌≡◌, length, vec_len}
use Rattle.batch_rules.specs.Touches.{overwritten}
use Rattle.row_batons.specs.Windows.{paired}
use Rattle.row_batons.proofs.installs.install.Given as goal

abbrev pub invariant-loop-key : goal.invariant-loop-key
invariant-loop-key l = (overwritten l.tables (paired l.keys.items l.rows.items) ≡ overwritten l.initial.tables
    (paired l.initial.keys.items l.initial.rows.items)) × (length l.rows.items ≡ length l.keys.items)

abbrev pub decreases-loop-key : goal.decreases-loop-key
decreases-loop-key l = vec_len l.keys
