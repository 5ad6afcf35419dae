use Rattle.std.proofs.Common.{◌≡◌, ◌+◌, ◌*◌, drop}
use Rattle.proc_lang.specs.Catalogs.{steps_count}
use Rattle.proc_lang.specs.Steps.{step_size, steps_size}
use Rattle.proc_lang.specs.Syntax.{step_of, steps_of}
use Rattle.proc_lang.specs.Typing.{typed_steps}
use Rattle.proc_verify.specs.Scopes.{seen}
use Rattle.proc_verify.specs.Stops.{standing}
use Rattle.proc_verify.proofs.statements.+typing.Given as goal

abbrev pub decreases-typed_step : goal.decreases-typed_step
decreases-typed_step l = 2 * step_size (step_of l.stmt.now)

abbrev pub decreases-typed_if : goal.decreases-typed_if
decreases-typed_if l = 2 * (steps_size l.first.now + steps_size l.second.now) + 1

abbrev pub decreases-typed_each : goal.decreases-typed_each
decreases-typed_each l = 2 * steps_size l.body.now + 1

abbrev pub decreases-typed_steps : goal.decreases-typed_steps
decreases-typed_steps l = 2 * steps_size l.block.now

abbrev pub invariant-typed_steps-loop-stmt : goal.invariant-typed_steps-loop-stmt
invariant-typed_steps-loop-stmt l = record {
  same : typed_steps (seen l.scope) (steps_of (drop l.stmt-index l.stmt-items)) (standing l.reached) ≡ typed_steps (seen l.scope) l.block
      (standing l.initial.reached);
  count : l.reached.next + steps_count (steps_of (drop l.stmt-index l.stmt-items)) ≡ l.initial.reached.next + steps_count l.block;
}
