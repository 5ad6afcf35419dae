use Rattle.std.proofs.Common.{ap, ◌∙◌}
use Rattle.std.specs.Option.{is_some}
use Rattle.tbl_rows.proofs.Together.{get-at_home, IsWhole-put, joined-deleted}
use Rattle.tbl_rows.proofs.tables.Tables.delete.Goals as goal

pub invariant_of-self : goal.invariant_of-self
invariant_of-self c = IsWhole-put _ _ _ _ _ c.self.invariant (c.from.ensures ∙ c.shard_at.ensures.home) c.index_mut-shard.ensures.value
    (ap (λ p. p.number) c.delete_at.ensures.deleted) c.delete_at.ensures.own

pub returns-clause-found : goal.returns-clause-found
returns-clause-found c = rw (← c.self.view_is)
    (c.delete_at.ensures.found ∙ ap is_some (get-at_home _ _ _ _ c.self.invariant (c.from.ensures ∙ c.shard_at.ensures.home) c.index_mut-shard.ensures.value))

pub returns-clause-deleted : goal.returns-clause-deleted
returns-clause-deleted c = rw (← c.self.view_is)
    (joined-deleted _ _ _ _ _ c.self.invariant (c.from.ensures ∙ c.shard_at.ensures.home) c.index_mut-shard.ensures.value c.delete_at.ensures.deleted)
