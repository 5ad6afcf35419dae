use Rattle.std.proofs.Common.{sym, ap, ◌∙◌}
use Rattle.std.specs.Prelude.{is_some}
use Rattle.aria_base.proofs.Trees.{get-lookup}
use Rattle.range_runs.proofs.indexes.Index.contains.Goals as goal

pub returns : goal.returns
returns c = rw (← c.self.view_is) (c.contains_key.ensures ∙ ap is_some (sym (get-lookup _ _)))
