use Rattle.std.proofs.Common.{◌≡◌, ◌++◌}
use Rattle.std.specs.Vec.Iter.{into_iter_items}
use Rattle.batch_core.specs.Steps.{number_in}
use Rattle.range_resv.specs.Answers.{lines_in}
use Rattle.range_resv.proofs.answers.lines_of.Given as goal

abbrev pub invariant-loop-end : goal.invariant-loop-end
invariant-loop-end l =
    (goal.iterator-loop-end).can_next l.end-iterator ×
    (goal.iterator-loop-end).is_finite l.end-iterator ×
    (l.lines.items ++ lines_in (number_in l.numbers) (into_iter_items l.end-iterator) l.left l.rest
    ≡ lines_in (number_in l.numbers) (into_iter_items l.initial.end-iterator) l.initial.left l.initial.rest)
