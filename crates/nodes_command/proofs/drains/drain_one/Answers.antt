use Rattle.std.proofs.Common.{rules, ◌≡◌, ◌≤◌, ◌<◌, ◌∙◌, sym, subst, arith}
use Rattle.answer_text.specs.Refusals.{refusal_text}
use Rattle.aria_base.specs.declared.limits.TheConstants.{GREATEST_NUMBER}
use Rattle.batch_core.specs.Steps.{State}
use Rattle.run_commands.proofs.Drained.{one_refused}
use Rattle.script_course.specs.Courses.{Course}
use Rattle.script_course.specs.Served.{Serves}
use Rattle.script_text.specs.declared.refusals.RefusalKind.TheVariants.{Numbers}
use Rattle.nodes_command.specs.Bases.{AreDone, state_now, state_result}
use Rattle.nodes_command.proofs.Draining.{given_holds, given_state, one_next, stopped_state}
use Rattle.nodes_command.proofs.States.{batches_now}
use Rattle.nodes_command.proofs.drains.drain_one.Goals as goal

pub returns-then-batches-ge-GREATEST_NUMBER-clause-serves : goal.returns-then-batches-ge-GREATEST_NUMBER-clause-serves
returns-then-batches-ge-GREATEST_NUMBER-clause-serves g c =
    let n = c.args.nodes in
    let count = batches_now n c.requires.done c.ready.ensures in
    let past : GREATEST_NUMBER ≤ (state_now n).batches = omega (arith, count, c.batches.ensures, c.if-batches-ge-GREATEST_NUMBER.true) in
    let old = g.K.Sink.given c.args.out.now in
    let new = g.K.Sink.given c.refuse.new.out in
    subst (λ (q : Course State). Serves q old new (state_result c.refuse.result))
    (sym (one_refused c.args.catalog.now c.args.each c.args.line (state_now n) past))
    (stopped_state (refusal_text (record { line = c.args.line; kind = Numbers })) old new c.refuse.result c.refuse.ensures.serves)

pub returns-in-Ok-clause-serves : goal.returns-in-Ok-clause-serves
returns-in-Ok-clause-serves g c =
    let n = c.args.nodes in
    let count = batches_now n c.requires.done c.ready.ensures in
    let below : (state_now n).batches < GREATEST_NUMBER = omega (arith, count, c.batches.ensures, c.if-batches-ge-GREATEST_NUMBER.false) in
    let text : c.deref.result.now ≡ c.in-Ok.text.items = search rules in
    let old = g.K.Sink.given c.args.out.now in
    let new = g.K.Sink.given c.give.new.out in
    subst (λ (q : Course State). Serves q old new (state_result c.give.result))
    (sym (one_next c.args.catalog.now c.args.each c.args.line n c.new.result.items c.in-Ok.next c.deref.result.now c.new.ensures.items c.requires.plan below
    c.in-Ok.ensures.next (text ∙ c.in-Ok.ensures.text)))
    (given_state c.deref.result.now c.in-Ok.next old new c.give.result c.give.ensures.serves)

pub returns-in-Ok-clause-done : goal.returns-in-Ok-clause-done
returns-in-Ok-clause-done g c =
    given_holds AreDone c.deref.result.now c.in-Ok.next (g.K.Sink.given c.args.out.now) (g.K.Sink.given c.give.new.out) c.give.result
    c.in-Ok.ensures.next.done c.give.ensures.serves

pub returns-in-Ok-clause-plan : goal.returns-in-Ok-clause-plan
returns-in-Ok-clause-plan g c =
    given_holds (λ n. n.world.catalog ≡ c.args.catalog.now) c.deref.result.now c.in-Ok.next (g.K.Sink.given c.args.out.now)
    (g.K.Sink.given c.give.new.out) c.give.result (c.in-Ok.ensures.next.fixed.catalog ∙ c.requires.plan) c.give.ensures.serves
