use Rattle.std.proofs.Common.{◌≡◌, ◌∙◌, ap, subst}
use Rattle.aria_store.specs.Stands.{batch_in}
use Rattle.serving.specs.Lives.{IsNext, batch_text, next_text, plan_of, state_of}
use Rattle.serving.specs.Stored.{handed_in}
use Rattle.serving.specs.declared.lives.Live.{Live}
use Rattle.store_openings.specs.Runs.{IsStepped}
use Rattle.store_openings.proofs.Fits.{stepped}
use Rattle.store_commands.proofs.Replayed.{served_front, served_given, served_step, text_settled}
use Rattle.store_commands.proofs.steps.answer.Goals as goal

pub returns-in-Ok-clause-stepped : goal.returns-in-Ok-clause-stepped
returns-in-Ok-clause-stepped g c =
    served_step c.deref.result.now c.deref.result.now c.in-Ok.next (g.K.Sink.given c.args.out.now) (g.K.Sink.given c.give.new.out)
    (IsStepped c.args.live (batch_in c.args.logged)) c.give.result
    (stepped c.args.live (batch_in c.args.logged) c.in-Ok.next
    (subst (λ (l : Live). IsNext l c.args.logged.calls.items c.in-Ok.next) c.with_settings_of-settled.ensures c.in-Ok.ensures.next)
    (c.in-Ok.ensures.store ∙ ap (λ (l : Live). l.store) c.with_settings_of-settled.ensures))
    c.give.ensures.serves

pub returns-in-Ok-clause-given : goal.returns-in-Ok-clause-given
returns-in-Ok-clause-given g c =
    let batch = batch_in c.args.logged in
    let text = batch_text (plan_of c.args.live) c.args.live.each (state_of c.args.live) (handed_in batch) in
    let same : c.deref.result.now ≡ text = c.deref.ensures.value ∙ c.in-Ok.ensures.text
    ∙ ap (λ (l : Live). next_text l c.args.logged.calls.items) c.with_settings_of-settled.ensures ∙ text_settled c.args.live batch in
    served_given c.deref.result.now text c.in-Ok.next (g.K.Sink.given c.args.out.now) (g.K.Sink.given c.give.new.out) c.give.result same c.give.ensures.serves

pub returns-in-Ok-clause-front : goal.returns-in-Ok-clause-front
returns-in-Ok-clause-front g c =
    let batch = batch_in c.args.logged in
    let text = batch_text (plan_of c.args.live) c.args.live.each (state_of c.args.live) (handed_in batch) in
    let same : c.deref.result.now ≡ text = c.deref.ensures.value ∙ c.in-Ok.ensures.text
    ∙ ap (λ (l : Live). next_text l c.args.logged.calls.items) c.with_settings_of-settled.ensures ∙ text_settled c.args.live batch in
    served_front c.deref.result.now text c.in-Ok.next (g.K.Sink.given c.args.out.now) (g.K.Sink.given c.give.new.out) c.give.result same c.give.ensures.serves
