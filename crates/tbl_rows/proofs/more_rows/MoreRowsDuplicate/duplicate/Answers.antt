use Rattle.std.proofs.Common.{◌∙◌}
use Rattle.std.proofs.lemmas.List.{take_all}
use Rattle.tbl_rows.proofs.more_rows.MoreRowsDuplicate.duplicate.Goals as goal

pub invariant_of-result : goal.invariant_of-result
invariant_of-result c =
    rw (c.loop-entry.invariant ∙ take_all _ _ c.loop-entry-test.false ∙ c.deref-entry-items.ensures.value) c.self.invariant
