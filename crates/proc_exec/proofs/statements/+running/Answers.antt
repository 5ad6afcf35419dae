use Rattle.std.proofs.Common.{◌<◌, suc, drop, length, drop-cons, arith, rules}
use Rattle.std.proofs.lemmas.List.{drop_all}
use Rattle.proc_lang.specs.Meaning.{for_each, steps_run}
use Rattle.proc_exec.proofs.statements.+running.Goals as goal

-- the rest of the tuples is what comes next
pub run_each-returns-in_err-run_block : goal.run_each-returns-in_err-run_block
run_each-returns-in_err-run_block g t c = λ next.
    let tuples = c.tuples-tuple-items.result.now in
    let below : c.loop-tuple.tuple-index < length tuples = omega arith in
    let rest = c.in_err-run_block.ensures (for_each (steps_run c.args.setting.now.scope.request.now c.args.block.now)
    (drop (suc c.loop-tuple.tuple-index) tuples) next) in
    rw (c.loop-tuple.invariant next, drop-cons tuples c.loop-tuple.tuple-index c.tuple-item.result below, ← c.tuple-item.is, ← c.as_slice.ensures.list)
    (search (rules, rest))

pub run_each-returns : goal.run_each-returns
run_each-returns g t c = λ next. rw (drop_all c.loop-tuple.tuple-index c.tuples-tuple-items.result.now (omega arith)) at (c.loop-tuple.invariant next)
