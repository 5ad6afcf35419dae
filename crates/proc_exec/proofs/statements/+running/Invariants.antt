use Rattle.std.proofs.Common.{◌≡◌, ◌+◌, ◌*◌, drop}
use Rattle.std.specs.List.{slice_get}
use Rattle.batch_rules.specs.Plays.{play}
use Rattle.proc_lang.specs.Steps.{step_size, steps_size}
use Rattle.proc_lang.specs.Syntax.{step_of, steps_of}
use Rattle.proc_lang.specs.Values.{tuples_of}
use Rattle.proc_lang.specs.Meaning.{Next, steps_run, for_each}
use Rattle.proc_exec.proofs.statements.+running.Given as goal

abbrev pub decreases-run_stmt : goal.decreases-run_stmt
decreases-run_stmt g l = 2 * step_size (step_of l.stmt.now)

abbrev pub decreases-run_block : goal.decreases-run_block
decreases-run_block g l = 2 * steps_size l.block.now

abbrev pub decreases-run_each : goal.decreases-run_each
decreases-run_each g l = 2 * steps_size l.block.now + 1

abbrev pub invariant-run_block-loop-stmt : goal.invariant-run_block-loop-stmt
invariant-run_block-loop-stmt g l =
    let declared = g.L.Limits.declared l.setting.limits.now in
    let seen = g.A.Access.seen in
    (next : Next) → play declared (steps_run l.setting.scope.request.now l.block l.setting.scope.item.now next l.initial.state) (seen l.initial.access)
    ≡ play declared (steps_run l.setting.scope.request.now (steps_of (drop l.stmt-index l.stmt-items)) l.setting.scope.item.now next l.state) (seen l.access)

abbrev pub invariant-run_each-loop-tuple : goal.invariant-run_each-loop-tuple
invariant-run_each-loop-tuple g l =
    let declared = g.L.Limits.declared l.setting.limits.now in
    let seen = g.A.Access.seen in
    (next : Next) → play declared (for_each (steps_run l.setting.scope.request.now l.block)
    (tuples_of (slice_get l.setting.scope.request.now.call.args l.argument)) next l.initial.state) (seen l.initial.access)
    ≡ play declared (for_each (steps_run l.setting.scope.request.now l.block) (drop l.tuple-index l.tuple-items) next l.state) (seen l.access)
