use Rattle.std.proofs.Common.{refl}
use Rattle.aria_base.proofs.Trees.{from_entries-insert}
use Rattle.key_numbering.proofs.ordered.Ordered.insert.Goals as goal

pub returns-clause-inserted : goal.returns-clause-inserted
returns-clause-inserted c = rw (← c.self.view_is, from_entries-insert _ _ _ _ c.in_ok-_none.ensures.updates.0) refl
