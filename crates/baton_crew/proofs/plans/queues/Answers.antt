use Rattle.std.proofs.Common.{◌≡◌, ◌∙◌, ℕ, suc, ◌+◌, ◌-◌, sym, subst, ap, arith, List, [], ◌∷◌, ◌++◌, ◌<◌, ◌≤◌}
use Rattle.baton_crew.specs.Plans.{AreFirsts, AreNexts}
use Rattle.baton_crew.proofs.Found.{touched_below, firsts_more, nexts_more}
use Rattle.baton_crew.proofs.plans.queues.Goals as goal

pub look_up-requires : goal.look_up-requires
look_up-requires g c =
    touched_below (g.W.Course.plan c.args.work.now) c.requires (c.loop-item.item - 1) _ _
    (let h = c.loop-item.invariant.within in let t = c.loop-item-test.true in omega arith) c.touches-touched.ensures
    (ap Rattle.std.proofs.Common.length c.deref.ensures.value ∙ c.loop-item.invariant.firsts.each)

pub note-requires : goal.note-requires
note-requires g c =
    touched_below (g.W.Course.plan c.args.work.now) c.requires (c.loop-item.item - 1) _ _
    (let h = c.loop-item.invariant.within in let t = c.loop-item-test.true in omega arith) c.touches-touched.ensures
    c.loop-item.invariant.firsts.each

pub loop-item-preserved : goal.loop-item-preserved
loop-item-preserved g c =
    let course = g.W.Course.plan c.args.work.now in
    let x : ℕ = c.loop-item.item - 1 in
    let t = c.loop-item-test.true in
    let within = c.loop-item.invariant.within in
    let lt : x < course.items = omega arith in
    let e : c.loop-item.item ≡ suc x = omega arith in
    let firsts = subst (λ (n : ℕ). AreFirsts course n c.loop-item.firsts.items) e c.loop-item.invariant.firsts in
    let nexts = subst (λ (n : ℕ). AreNexts course n c.loop-item.nexts) e c.loop-item.invariant.nexts in
    record {
      within = omega arith;
      firsts = subst (AreFirsts course x) (sym c.note.ensures)
          (firsts_more course x lt c.loop-item.firsts.items c.touches-touched.result.now c.touches-touched.ensures firsts);
      nexts = subst (AreNexts course x) (sym (c.in_ok-push.ensures ∙ ap (λ l. c.loop-item.nexts ++ l ∷ []) c.as_slice.ensures.value))
          (nexts_more course x lt c.requires c.loop-item.firsts.items c.touches-touched.result.now c.loop-item.nexts c.look_up.new.list.items
          c.touches-touched.ensures firsts
          (c.in_ok-look_up.ensures ∙ ap (λ fs. Rattle.baton_crew.specs.Plans.looked_up fs c.touches-touched.result.now) c.deref.ensures.value) nexts);
    }
