use Rattle.std.proofs.Common.{sym, ◌∙◌}
use Rattle.aria_base.specs.contracts.keys.KeyPartialEq.TheImpl as key_eq
use Rattle.aria_base.proofs.Trees.{get-by}
use Rattle.key_numbering.proofs.Maps.{same_eq}
use Rattle.key_numbering.proofs.hashed.Hashed.get.Goals as goal

pub returns : goal.returns
returns c = rw (← c.self.view_is) (c.copied.ensures ∙ c.get.ensures.value ∙ sym (get-by key_eq.eq-value.it same_eq _ _))
