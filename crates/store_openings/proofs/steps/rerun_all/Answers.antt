use Rattle.std.proofs.Common.{subst, List, false, ◌≡◌, arith}
use Rattle.std.specs.Vec.Iter.{into_iter_items}
use Rattle.aria_store.specs.Stands.{batch_in, batches_in}
use Rattle.image_text.specs.declared.payloads.Logged.{Logged}
use Rattle.serving.specs.Lives.{state_of}
use Rattle.serving.specs.Stored.{is_crowded}
use Rattle.store_openings.proofs.Ways.{IsOnWay, on_next}
use Rattle.store_openings.proofs.steps.rerun_all.Goals as goal

pub loop-logged-preserved : goal.loop-logged-preserved
loop-logged-preserved g c =
    let all = batches_in (into_iter_items c.into_iter-logged-iterator.result) in
    let rest = into_iter_items c.next.new.self in
    let left = c.in-Some.ensures.steps.0 in
    let kept = c.loop-logged.invariant in
    let on = subst (λ (l : List Logged). IsOnWay c.args.start all c.loop-logged.live c.loop-logged.place (batches_in l)) left kept.2 in
    let roomy : is_crowded (state_of c.loop-logged.live) (batch_in c.in-Some.logged) ≡ false = grind (arith, c.is_crowded.ensures, c.if-is_crowded.false) in (
      tt,
      tt,
      on_next c.args.start all c.loop-logged.live c.loop-logged.place (batch_in c.in-Some.logged) (batches_in rest) on roomy c.in-Ok.next c.in-Ok.ensures,
    )
