use Rattle.std.proofs.Common.{◌≡◌, ◌+◌, ◌++◌, length, map}
use Rattle.std.specs.Vec.Iter.{into_iter_items}
use Rattle.batch_rules.specs.Batches.{decided, settled}
use Rattle.proc_exec.specs.Lates.{fate_of}
use Rattle.batch_engine.specs.Answers.{by_end, line_in}
use Rattle.batch_engine.proofs.answers.lines_of.Given as goal

abbrev pub invariant-loop-end : goal.invariant-loop-end
invariant-loop-end l =
    (goal.iterator-loop-end).can_next l.end-iterator ×
    (goal.iterator-loop-end).is_finite l.end-iterator ×
    (l.tid + length (into_iter_items l.end-iterator) ≡ length (into_iter_items l.initial.end-iterator)) ×
    (l.lines.items ++ map (line_in l.numbers) (settled by_end (decided (l.tid + 1) (into_iter_items l.end-iterator) l.rest)
    (map fate_of (into_iter_items l.lates)))
    ≡ map (line_in l.numbers) (settled by_end (decided 1 (into_iter_items l.initial.end-iterator) l.initial.rest)
    (map fate_of (into_iter_items l.initial.lates))))
