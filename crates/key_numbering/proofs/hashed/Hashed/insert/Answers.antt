use Rattle.std.proofs.Common.{refl}
use Rattle.aria_base.specs.contracts.keys.KeyPartialEq.TheImpl as key_eq
use Rattle.aria_base.proofs.Trees.{insert-by}
use Rattle.key_numbering.proofs.Maps.{same_eq}
use Rattle.key_numbering.proofs.hashed.Hashed.insert.Goals as goal

pub returns-clause-inserted : goal.returns-clause-inserted
returns-clause-inserted c = rw (← c.self.view_is, insert-by key_eq.eq-value.it same_eq _ _ _ _ c.in_ok-_none.ensures.updates.0) refl
