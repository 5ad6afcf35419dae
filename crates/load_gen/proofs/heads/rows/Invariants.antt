use Rattle.std.proofs.Common.{◌≡◌, ◌≤◌, ◌-◌}
use Rattle.std.specs.FinMap as fin
use Rattle.aria_base.specs.Orders.{key_cmp}
use Rattle.load_gen.specs.Ycsb.{rows_from}
use Rattle.load_gen.proofs.heads.rows.Given as goal

abbrev pub invariant-loop-left : goal.invariant-loop-left
invariant-loop-left l = (l.left ≤ l.keys) × (l.tables ≡ fin.from_entries {R = key_cmp} (rows_from l.left (l.keys - l.left)))

abbrev pub decreases-loop-left : goal.decreases-loop-left
decreases-loop-left l = l.left
