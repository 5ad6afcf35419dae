use Rattle.tbl_rows.proofs.Owned.{IsOwn-bare}
use Rattle.tbl_rows.proofs.shards.Shard.new.Goals as goal

pub invariant_of-result : goal.invariant_of-result
invariant_of-result c = rw c.in_ok-rows.ensures (record { below = c.requires; own = IsOwn-bare c.args.number })
