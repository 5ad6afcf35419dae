use Rattle.std.proofs.Common.{sym, ◌∙◌}
use Rattle.key_numbering.proofs.Beside.{found-near, found-far}
use Rattle.key_numbering.proofs.places.Places.get.Goals as goal

pub returns-in-Some : goal.returns-in-Some
returns-in-Some c = rw (← c.self.view_is) (sym (found-near _ _ _ _ (sym c.get.ensures ∙ c.in-Some.is)))

pub returns-in-None : goal.returns-in-None
returns-in-None c = rw (← c.self.view_is) (c.get-in-None.ensures ∙ sym (found-far _ _ _ (sym c.get.ensures ∙ c.in-None.is)))
