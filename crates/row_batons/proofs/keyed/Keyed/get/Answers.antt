use Rattle.std.proofs.Common.{sym, ◌∙◌}
use Rattle.aria_base.proofs.Trees.{get-lookup}
use Rattle.row_batons.proofs.keyed.Keyed.get.Goals as goal

pub returns : goal.returns
returns c = rw (← c.self.view_is) (c.copied.ensures ∙ c.get.ensures.value ∙ sym (get-lookup _ _))
