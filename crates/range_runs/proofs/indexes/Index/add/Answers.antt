use Rattle.std.proofs.Common.{sym, subst}
use Rattle.range_runs.specs.Indexes.{HasKeys}
use Rattle.range_runs.proofs.Following.{insert_keys}
use Rattle.aria_base.proofs.Trees.{from_entries-insert}
use Rattle.range_runs.proofs.indexes.Index.add.Goals as goal

pub returns-clause-added : goal.returns-clause-added
returns-clause-added c = rw (← c.self.view_is) (from_entries-insert _ _ c.args.key tt c.in_ok-_none.ensures.updates.0)

pub invariant_of-self-2 : goal.invariant_of-self-2
invariant_of-self-2 c = subst HasKeys (sym (from_entries-insert _ _ c.args.key tt c.in_ok-_none.ensures.updates.0))
    (insert_keys _ c.args.key c.self.invariant c.see_key.ensures)
