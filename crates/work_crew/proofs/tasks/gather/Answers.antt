use Rattle.std.proofs.Common.{subst}
use Rattle.std.specs.Result.{IfOk}
use Rattle.work_crew.specs.Gathered.{AreGiven}
use Rattle.work_crew.proofs.Fills.{each_once, given_of}
use Rattle.work_crew.proofs.tasks.gather.Goals as goal

pub in_order-requires : goal.in_order-requires
in_order-requires g c = each_once (g.T.Task.gives c.args.task.now) _ _ _ c.len.ensures c.in_ok-done.ensures

pub returns : goal.returns
returns g c =
    let gives = g.T.Task.gives c.args.task.now in
    subst (λ n. IfOk c.in_order.result (λ v. AreGiven gives n v.items)) c.len.ensures
    (given_of gives _ c.in_ok-done.ensures.2.each _ (λ v. v.items) c.in_order.result c.in_order.ensures)
