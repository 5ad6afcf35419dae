use Rattle.std.proofs.Common.{ap, sym, ◌∙◌}
use Rattle.aria_base.proofs.Shares.{get_or-get_elem}
use Rattle.work_claim.specs.Rule.{times, once_below}
use Rattle.work_claim.specs.Seats.{Drawer}
use Rattle.work_claim.proofs.Keeps.{closes}
use Rattle.work_claim.proofs.claims.Claims.close.Goals as goal

pub returns : goal.returns
returns c = λ x.
    ap (λ (s : Drawer). times x s.drawn) (sym c.seat.view_is)
    ∙ closes _ _ _ _ _ (ap (λ (s : Drawer). s.share) c.seat.view_is ∙ c.requires.whole) c.close_with-closed.ensures.values.2 x
    ∙ ap (once_below x) (get_or-get_elem _ 1 _ c.word-draws.ensures)
