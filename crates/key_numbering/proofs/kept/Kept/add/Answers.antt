use Rattle.std.proofs.Common.{◌∙◌}
use Rattle.std.specs.FinMap as fin
use Rattle.key_numbering.proofs.Growing.{more}
use Rattle.key_numbering.proofs.kept.Kept.add.Goals as goal

pub invariant_of-self-2 : goal.invariant_of-self-2
invariant_of-self-2 c = more _ _ _ _ c.self.invariant.0 c.self.invariant.1 ((λ i. fin.get (c.self.view_is i) (c.in_ok-key.ensures i))
    ∙ c.requires.new) c.in_ok-put.ensures.put
