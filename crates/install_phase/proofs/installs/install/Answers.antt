use Rattle.std.proofs.Common.{◌≡◌, ap, subst, ◌∙◌}
use Rattle.std.specs.Result.{IfOk}
use Rattle.install_phase.specs.Installs.{after_changes}
use Rattle.install_phase.proofs.Installing.{same_changes}
use Rattle.install_phase.proofs.installs.install.Goals as goal

pub returns : goal.returns
returns g c =
    let same = ap (λ list. after_changes 1 c.args.tables list c.args.verdicts.now) c.in_ok-list.ensures
    ∙ same_changes 1 c.args.tables c.args.outcomes.items c.args.verdicts.now in
    subst (λ rows. IfOk c.install_changes.result (λ after. after ≡ rows)) same c.install_changes.ensures
