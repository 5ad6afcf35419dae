use Rattle.std.proofs.Common.{◌≡◌, List, false, subst, arith, rules}
use Rattle.std.specs.Vec.Iter.{into_iter_items}
use Rattle.aria_store.specs.Stands.{batch_in, batches_in}
use Rattle.image_text.specs.declared.payloads.Logged.{Logged}
use Rattle.serving.specs.Lives.{state_of}
use Rattle.serving.specs.Stored.{is_crowded}
use Rattle.store_commands.specs.Replays.{IsHalt}
use Rattle.store_commands.specs.declared.steps.Halt.TheVariants as halt
use Rattle.store_commands.proofs.Replayed.{IsOnWay, on_next, on_stop}
use Rattle.store_commands.proofs.steps.answer_all.Goals as goal

pub returns-in-Err-clause-halt : goal.returns-in-Err-clause-halt
returns-in-Err-clause-halt g c =
    let all = batches_in (into_iter_items c.into_iter-logged-iterator.result) in
    let old = g.K.Sink.given c.args.out.now in
    let now = g.K.Sink.given c.loop-logged.out in
    let new = g.K.Sink.given c.answer.new.out in
    let rest = into_iter_items c.next.new.self in
    let same : into_iter_items c.into_iter-logged-iterator.result ≡ c.args.later.items = search rules in
    let on = subst (λ (l : List Logged). IsOnWay c.args.start all old c.loop-logged.live c.loop-logged.place now (batches_in l)) c.in-Some.ensures.steps.0
    c.loop-logged.invariant.2 in
    let roomy : is_crowded (state_of c.loop-logged.live) (batch_in c.in-Some.logged) ≡ false = grind (arith, c.is_crowded.ensures, c.if-is_crowded.false) in
    subst (λ (l : List Logged). IsHalt c.args.start (batches_in l) old new (halt.Stopped c.in-Err.stop)) same
    (on_stop c.args.start all old c.loop-logged.live c.loop-logged.place now (batch_in c.in-Some.logged)
    (batches_in rest) on roomy c.in-Err.stop new c.in-Err.ensures.cut c.in-Err.ensures.front)

pub loop-logged-preserved : goal.loop-logged-preserved
loop-logged-preserved g c =
    let all = batches_in (into_iter_items c.into_iter-logged-iterator.result) in
    let old = g.K.Sink.given c.args.out.now in
    let now = g.K.Sink.given c.loop-logged.out in
    let new = g.K.Sink.given c.answer.new.out in
    let rest = into_iter_items c.next.new.self in
    let on = subst (λ (l : List Logged). IsOnWay c.args.start all old c.loop-logged.live c.loop-logged.place now (batches_in l)) c.in-Some.ensures.steps.0
    c.loop-logged.invariant.2 in
    let roomy : is_crowded (state_of c.loop-logged.live) (batch_in c.in-Some.logged) ≡ false = grind (arith, c.is_crowded.ensures, c.if-is_crowded.false) in (
      tt,
      tt,
      on_next c.args.start all old c.loop-logged.live c.loop-logged.place now (batch_in c.in-Some.logged)
          (batches_in rest) on roomy c.in-Ok.next new c.in-Ok.ensures.stepped c.in-Ok.ensures.given,
      omega (arith, c.loop-logged.invariant.3, c.answer.ensures.sink),
    )
