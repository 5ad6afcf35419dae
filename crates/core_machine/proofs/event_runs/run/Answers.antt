use Rattle.std.proofs.Common.{◌++◌, take, sym, ap, subst, arith}
use Rattle.std.proofs.lemmas.List.{append-nil}
use Rattle.std.proofs.lemmas.Option.{slice_get-get_or}
use Rattle.core_machine.specs.Cores.{HasTaken}
use Rattle.core_machine.proofs.Taking.{take_more, take_past}
use Rattle.core_machine.proofs.event_runs.run.Goals as goal

pub loop-at-init : goal.loop-at-init
loop-at-init c = λ b es taken. subst (λ l. HasTaken b l c.args.core) (sym (append-nil es)) taken

pub returns-then-not-is_due-clause-refused : goal.returns-then-not-is_due-clause-refused
returns-then-not-is_due-clause-refused c = λ b es taken. let so_far = c.loop-at.invariant b es taken in (
  _,
  slice_get-get_or c.args.events.now c.loop-at.at _ (omega (arith, c.loop-at-test.true)),
  so_far.legal,
  c.if-not-is_due.ensures.due b (es ++ take c.loop-at.at c.args.events.now) so_far,
)

pub loop-at-preserved : goal.loop-at-preserved
loop-at-preserved c = λ b es taken. let so_far = c.loop-at.invariant b es taken in
    subst (λ l. HasTaken b l c.take.new.self) (take_more es c.args.events.now c.loop-at.at _
    (slice_get-get_or c.args.events.now c.loop-at.at _ (omega (arith, c.loop-at-test.true))))
    (c.in_ok-take.ensures b (es ++ take c.loop-at.at c.args.events.now) so_far
    (c.if-not-is_due.ensures.due b (es ++ take c.loop-at.at c.args.events.now) so_far))

pub returns-clause-taken : goal.returns-clause-taken
returns-clause-taken c = λ b es taken. subst (λ l. HasTaken b l c.loop-at.core)
    (ap (λ l. es ++ l) (take_past c.args.events.now c.loop-at.at (omega (arith, c.loop-at-test.false)))) (c.loop-at.invariant b es taken)
