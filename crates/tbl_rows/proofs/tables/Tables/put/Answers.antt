use Rattle.std.proofs.Common.{◌∙◌}
use Rattle.tbl_rows.proofs.Together.{IsWhole-put, joined-put}
use Rattle.tbl_rows.proofs.tables.Tables.put.Goals as goal

pub invariant_of-self : goal.invariant_of-self
invariant_of-self c = IsWhole-put _ _ _ _ _ c.self.invariant (c.from.ensures ∙ c.shard_at.ensures.home) c.index_mut-shard.ensures.value c.put_at.ensures.number
    c.put_at.ensures.own

pub returns-clause-put : goal.returns-clause-put
returns-clause-put c = rw (← c.self.view_is) (joined-put _ _ _ _ _ _ c.self.invariant (c.from.ensures
    ∙ c.shard_at.ensures.home) c.index_mut-shard.ensures.value c.in_ok-_spent.ensures.put)
