use Rattle.std.proofs.Common.{◌≡◌, ap, ◌∙◌, subst, ◌-◌, []}
use Rattle.std.proofs.lemmas.Result.{on_ok_weaker, IfOk-weaker}
use Rattle.resv_phase.specs.Marked.{HasMarked}
use Rattle.resv_phase.proofs.Marked.{marked_share}
use Rattle.resv_phase.proofs.markings.MarkingWork.split.Goals as goal

pub returns-clause-parent : goal.returns-clause-parent
returns-clause-parent g c = on_ok_weaker c.split.result
    (λ less shares has. subst (λ n. HasMarked c.args.self.now.numbered.now c.args.self.now.words.now.table c.split.new.seat (n - 1) []) has.same_share
    (marked_share _ _ c.args.seat.now c.split.new.seat shares (c.args.seat.now.share - 1) [] less has))
    c.split.ensures.parent

pub returns-clause-child : goal.returns-clause-child
returns-clause-child g c = IfOk-weaker c.split.result _ _ (λ other one shares has. marked_share _ _ c.args.seat.now other shares 1 [] one has)
    c.split.ensures.child
