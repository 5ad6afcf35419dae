use Rattle.std.proofs.Common.{◌≡◌, ◌∙◌, ℕ, suc, ◌+◌, ◌-◌, sym, subst, ap, arith, ◌++◌, ◌<◌}
use Rattle.baton_crew.specs.Plans.{AreCounts}
use Rattle.baton_crew.specs.Rule.{first_turn, first_ready, ready_from}
use Rattle.baton_crew.proofs.Found.{touched_below, counts_more, ready_more, open_count}
use Rattle.baton_crew.proofs.plans.counts.Goals as goal

pub count-count-requires : goal.count-count-requires
count-count-requires g c = touched_below (g.W.Course.plan c.args.work.now) c.requires.course c.loop-item.item _ _
    (let h = c.items-items.ensures in let lt = c.loop-item-test.true in omega arith) c.touches.ensures c.requires.firsts.each

pub loop-item-preserved : goal.loop-item-preserved
loop-item-preserved g c =
    let course = g.W.Course.plan c.args.work.now in
    let x = c.loop-item.item in
    let lt : x < course.items = (let h = c.items-items.ensures in let lt' = c.loop-item-test.true in omega arith) in
    let words = counts_more course x lt c.requires.course c.args.firsts.now c.touches.result.now c.loop-item.words.items c.count-count.result c.touches.ensures
    c.requires.firsts c.count-count.ensures.count c.count-count.ensures.small c.loop-item.invariant.words in
    let ready = ready_more course x lt c.loop-item.ready.items c.add_ready.new.ready.items c.loop-item.words.items c.count-count.result
    (open_count course x lt c.requires.course c.args.firsts.now c.touches.result.now c.count-count.result c.touches.ensures c.requires.firsts
    c.count-count.ensures.count) c.in_ok-add_ready.ensures c.loop-item.invariant.ready in
    let e : suc x ≡ x + 1 = omega arith in
    record {
      words = subst (λ (n : ℕ). AreCounts course n c.push-in-loop-item.new.self.items) e
          (subst (λ ws. AreCounts course (suc x) ws) (sym c.in_ok-push-2.ensures.items) words);
      ready = subst (λ (n : ℕ). c.add_ready.new.ready.items ++ ready_from (first_turn course) course.touches n (course.items - n) ≡ first_ready course) e ready;
    }
