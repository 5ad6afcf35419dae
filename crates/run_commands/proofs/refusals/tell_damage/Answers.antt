use Rattle.std.proofs.Common.{◌≡◌, ◌∙◌, ◌++◌, List, ℕ, ap, subst}
use Rattle.answer_text.specs.Notices.{damaged_text}
use Rattle.script_course.specs.Served.{Finishes}
use Rattle.script_course.specs.declared.statuses.TheConstants.{STORE_REFUSED}
use Rattle.run_commands.proofs.refusals.tell_damage.Goals as goal

pub returns-in-Ok-clause-finishes : goal.returns-in-Ok-clause-finishes
returns-in-Ok-clause-finishes g c =
    let said = damaged_text c.args.file c.args.at in
    let same : c.deref.result.now ≡ said = c.deref.ensures.value ∙ c.in-Ok.ensures ∙ ap (λ (l : List ℕ). l ++ said) c.new-text.ensures.items in
    subst (λ (l : List ℕ). Finishes (record { bytes = l; status = STORE_REFUSED }) (g.K.Sink.given c.args.out.now)
    (g.K.Sink.given c.end_with.new.out) c.end_with.result) same c.end_with.ensures.finishes
