use Rattle.std.proofs.Common.{ℕ, sym, ap, subst, ◌∙◌}
use Rattle.std.specs.FinMap as fin
use Rattle.aria_base.specs.Orders.{key_cmp}
use Rattle.key_numbering.specs.Numbers.{AreNumbers}
use Rattle.key_numbering.proofs.Growing.{AreNumbers-empty}
use Rattle.key_numbering.proofs.kept.Kept.with.Goals as goal

pub invariant_of-result : goal.invariant_of-result
invariant_of-result c = (sym (ap fin.len c.new.ensures ∙ fin.len-empty key_cmp ℕ), subst AreNumbers (sym c.new.ensures) AreNumbers-empty)
