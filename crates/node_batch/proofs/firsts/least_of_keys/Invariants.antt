use Rattle.std.proofs.Common.{◌≡◌, drop, None}
use Rattle.node_batch.specs.Firsts.{first_in, least_told}
use Rattle.node_batch.proofs.firsts.least_of_keys.Given as goal

abbrev pub invariant-loop-key : goal.invariant-loop-key
invariant-loop-key l = least_told (first_in l.firsts) l.least (drop l.key-index l.keys) ≡ least_told (first_in l.firsts) None l.keys
