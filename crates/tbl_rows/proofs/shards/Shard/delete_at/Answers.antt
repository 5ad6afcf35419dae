use Rattle.tbl_rows.proofs.Owned.{IsOwn-without_row}
use Rattle.tbl_rows.proofs.shards.Shard.delete_at.Goals as goal

pub invariant_of-self : goal.invariant_of-self
invariant_of-self c = rw c.delete.ensures.deleted (record { below = c.self.invariant.below; own = IsOwn-without_row _ _ c.self.invariant.own })

pub returns-clause-own : goal.returns-clause-own
returns-clause-own c = (invariant_of-self c).own
