use Rattle.std.proofs.Common.{◌≡◌, ◌++◌, List, length}
use Rattle.std.specs.FinMap as fin
use Rattle.aria_base.specs.Orders.{Cells, key_cmp}
use Rattle.aria_base.specs.declared.keys.Key.{Key}
use Rattle.image_text.proofs.bodies.tables_of.Given as goal

abbrev pub invariant-loop-key : goal.invariant-loop-key
invariant-loop-key l = (done : List (Key × Cells)) × (l.left.items ++ done ≡ l.fn.rows.items) × (l.tables ≡ fin.from_entries {R = key_cmp} done)

abbrev pub decreases-loop-key : goal.decreases-loop-key
decreases-loop-key l = length l.left.items
