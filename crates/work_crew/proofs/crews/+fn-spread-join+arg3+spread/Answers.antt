use Rattle.std.proofs.Common.{rules, subst, arith}
use Rattle.std.specs.Result.{IfOk}
use Rattle.work_crew.specs.Hands.{IsPart}
use Rattle.work_crew.proofs.Draws.{part_joined}
use Rattle.work_crew.proofs.crews.+fn-spread-join+arg3+spread.Goals as goal

pub returns : goal.returns
returns g t c =
    let count = g.W.Work.count c.args.work.now in
    let did = g.W.Work.did c.args.work.now in
    let first : IfOk c.join-theirs.result.0 (λ r. IsPart (g.W.Work.count c.args.work.now) (g.W.Work.did c.args.work.now) c.in_ok-other_seat.other_seat r.0
    r.1) = search rules in
    let theirs = subst (λ r. IfOk r (λ r. IsPart count did c.in_ok-other_seat.other_seat r.0 r.1)) c.in_ok-other_seat-2.was first in
    let second : IfOk c.join-theirs.result.1 (λ r. IsPart (g.W.Work.count c.args.work.now) (g.W.Work.did c.args.work.now) c.split.new.seat r.0 r.1) =
    search rules in
    let ours = subst (λ r. IfOk r (λ r. IsPart count did c.split.new.seat r.0 r.1)) c.in_ok-seat.was second in
    part_joined count did _ _ _ _ _ _ _ _ _ c.in_ok-other_seat.ensures.parent c.in_ok-other_seat.ensures.child
    (omega arith) ours theirs c.join.ensures c.in_ok-join.ensures
