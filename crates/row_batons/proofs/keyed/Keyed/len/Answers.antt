use Rattle.std.proofs.Common.{sym, ◌∙◌}
use Rattle.aria_base.proofs.Orders.{derived_cmp, derived-is}
use Rattle.row_batons.proofs.Keyings.{len_entries}
use Rattle.row_batons.proofs.keyed.Keyed.len.Goals as goal

pub returns : goal.returns
returns c = rw (← c.self.view_is) (c.len.ensures.len ∙ sym (len_entries derived_cmp derived-is _ c.len.ensures.ordered))
