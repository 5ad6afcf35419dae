use Rattle.std.proofs.Common.{◌≡◌, ◌<◌, length, Some, ap, sym, ◌∙◌, arith}
use Rattle.std.specs.Vec.Iter.{into_iter_items}
use Rattle.std.proofs.lemmas.List.{length-set}
use Rattle.std.proofs.lemmas.List.Elements.{All-rest}
use Rattle.batch_rules.specs.Touches.{installed}
use Rattle.fallback_locks.specs.Reruns.{filled}
use Rattle.fallback_locks.specs.declared.dones.Done.{Done}
use Rattle.fallback_locks.proofs.settlements.settle.Goals as goal

pub loop-done-preserved : goal.loop-done-preserved
loop-done-preserved c =
    let rest = into_iter_items c.next.new.self in
    let left = c.in-Some.ensures.steps.0 in
    let kept = c.loop-done.invariant in
    let len : length c.put.new.lates.items ≡ length c.loop-done.lates.items = ap length c.put.ensures
    ∙ length-set c.loop-done.lates.items c.in-Some.done.place (Some c.in-Some.done.late) in
    let below = All-rest (λ (d : Done). d.place < length c.loop-done.lates.items) _ _ _ left kept.4 in (
      tt,
      tt,
      ap (λ t. installed (λ (d : Done). d.rows) t rest) c.in_ok-put_changes.ensures ∙ sym (ap (installed (λ (d : Done). d.rows) c.loop-done.tables) left)
          ∙ kept.2,
      ap (λ s. filled s rest) c.put.ensures ∙ sym (ap (filled c.loop-done.lates.items) left) ∙ kept.3,
      λ k d in_. let low = below k d in_ in omega (arith, low, len),
    )
