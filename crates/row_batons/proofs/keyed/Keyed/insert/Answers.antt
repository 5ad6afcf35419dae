use Rattle.std.proofs.Common.{refl}
use Rattle.aria_base.proofs.Trees.{from_entries-insert}
use Rattle.row_batons.proofs.keyed.Keyed.insert.Goals as goal

pub returns : goal.returns
returns c = rw (← c.self.view_is, from_entries-insert _ _ _ _ c.in_ok-_none.ensures.updates.0) refl
