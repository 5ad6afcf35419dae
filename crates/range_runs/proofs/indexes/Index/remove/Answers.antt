use Rattle.std.proofs.Common.{sym, subst}
use Rattle.range_runs.specs.Indexes.{HasKeys}
use Rattle.range_runs.proofs.Following.{remove_keys}
use Rattle.aria_base.proofs.Trees.{from_entries-remove}
use Rattle.range_runs.proofs.indexes.Index.remove.Goals as goal

pub returns : goal.returns
returns c = rw (← c.self.view_is) (from_entries-remove _ _ c.args.key.now c.remove-there.ensures.updates.0)

pub invariant_of-self : goal.invariant_of-self
invariant_of-self c = subst HasKeys (sym (from_entries-remove _ _ c.args.key.now c.remove-there.ensures.updates.0))
    (remove_keys _ c.args.key.now c.self.invariant)
