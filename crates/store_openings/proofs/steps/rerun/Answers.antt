use Rattle.std.proofs.Common.{subst, ap, ◌∙◌}
use Rattle.aria_store.specs.Stands.{batch_in}
use Rattle.serving.specs.Lives.{IsNext}
use Rattle.serving.specs.declared.lives.Live.{Live}
use Rattle.store_openings.proofs.Fits.{stepped}
use Rattle.store_openings.proofs.steps.rerun.Goals as goal

pub returns : goal.returns
returns g c =
    stepped c.args.live (batch_in c.args.logged) c.in_ok-next.next
    (subst (λ (l : Live). IsNext l c.args.logged.calls.items c.in_ok-next.next) c.with_settings_of-settled.ensures c.in_ok-next.ensures.next)
    (c.in_ok-next.ensures.store ∙ ap (λ (l : Live). l.store) c.with_settings_of-settled.ensures)
