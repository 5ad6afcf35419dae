use Rattle.std.proofs.Common.{◌≡◌, drop}
use Rattle.install_phase.specs.Writes.{is_one}
use Rattle.install_phase.proofs.listings.is_one.Given as goal

abbrev pub invariant-loop-shard : goal.invariant-loop-shard
invariant-loop-shard l = is_one (drop l.shard-index l.shards) l.number ≡ is_one l.shards l.number
