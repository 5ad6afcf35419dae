use Rattle.std.proofs.Common.{refl, sym, ap, ◌∙◌}
use Rattle.tbl_rows.proofs.Owned.{IsOwn-with_row}
use Rattle.tbl_rows.proofs.shards.Shard.put_at.Goals as goal

pub invariant_of-self-2 : goal.invariant_of-self-2
invariant_of-self-2 c = rw c.in_ok-spent.ensures.put (record {
  below = c.self.invariant.below;
  own = IsOwn-with_row _ _ _ (c.requires.home ∙ sym (ap (λ p. p.number) c.self.view_is)) c.self.invariant.own;
})

pub returns-clause-put : goal.returns-clause-put
returns-clause-put c = rw (← c.self.view_is, c.in_ok-spent.ensures.put) refl

pub returns-clause-own : goal.returns-clause-own
returns-clause-own c = (invariant_of-self-2 c).own
