use Rattle.std.proofs.Common.{◌≡◌, ◌++◌, map}
use Rattle.std.specs.Vec.Iter.{into_iter_items}
use Rattle.proc_exec.specs.Lates.{fate_of}
use Rattle.batch_engine.specs.Answers.{still_waiting}
use Rattle.batch_engine.proofs.lates.carry.Given as goal

abbrev pub invariant-loop-one : goal.invariant-loop-one
invariant-loop-one l =
    (goal.iterator-loop-one).can_next l.one-iterator ×
    (goal.iterator-loop-one).is_finite l.one-iterator ×
    (l.carried.items ++ still_waiting (into_iter_items l.one-iterator) (map fate_of l.rest)
    ≡ still_waiting (into_iter_items l.initial.one-iterator) (map fate_of l.initial.rest))
