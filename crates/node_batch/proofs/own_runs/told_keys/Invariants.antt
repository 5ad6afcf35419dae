use Rattle.std.proofs.Common.{◌≡◌, take}
use Rattle.batch_rules.specs.Touches.{keys_of}
use Rattle.node_batch.proofs.own_runs.told_keys.Given as goal

abbrev pub invariant-loop-row : goal.invariant-loop-row
invariant-loop-row l = l.keys.items ≡ keys_of (take l.row-index l.told)
