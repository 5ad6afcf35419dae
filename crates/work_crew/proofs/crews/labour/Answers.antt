use Rattle.std.proofs.Common.{ap, ◌∙◌, subst, arith}
use Rattle.work_claim.specs.Seats.{Drawer}
use Rattle.work_crew.specs.Hands.{IsPart}
use Rattle.work_crew.proofs.Draws.{rising_after, below_after, did_after, part_ended}
use Rattle.work_crew.proofs.crews.labour.Goals as goal

pub loop-place-preserved : goal.loop-place-preserved
loop-place-preserved g c =
    let drew = c.in-Some.ensures.some.1 in
    let lt = c.in-Some.ensures.some.0 in
    let kept = c.loop-place.invariant in
    record {
      table = ap (λ (s : Drawer). s.table) drew.one_more ∙ kept.table;
      share = ap (λ (s : Drawer). s.share) drew.one_more ∙ kept.share;
      below = below_after _ _ _ _ drew lt kept.below;
      least = omega arith;
      rising = λ y all. (let past = rising_after _ _ _ drew y all in omega arith);
      did = did_after c.args.claims.now.bound (g.W.Work.did c.args.work.now) _ _ _ _ _ drew lt c.in_ok-run.ensures kept.did;
    }

pub returns : goal.returns
returns g c =
    let kept = c.loop-place.invariant in
    let end = c.in_default.ensures.none in
    subst (λ n. IsPart n (g.W.Work.did c.args.work.now) c.args.seat c.draw.new.seat c.loop-place.hand) c.requires.bound
    (part_ended c.args.claims.now.bound (g.W.Work.did c.args.work.now) _ _ _ _ _ end.2 end.1 kept.table kept.share kept.did)
