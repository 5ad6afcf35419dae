use Rattle.std.proofs.Common.{◌≡◌, drop, None}
use Rattle.batch_rules.specs.Touches.{keys_of}
use Rattle.node_batch.specs.Firsts.{first_in, least_told}
use Rattle.node_batch.proofs.firsts.least_of_rows.Given as goal

abbrev pub invariant-loop-row : goal.invariant-loop-row
invariant-loop-row l = least_told (first_in l.firsts) l.least (keys_of (drop l.row-index l.rows)) ≡ least_told (first_in l.firsts) None (keys_of l.rows)
