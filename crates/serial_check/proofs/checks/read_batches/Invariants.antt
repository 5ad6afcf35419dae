use Rattle.std.proofs.Common.{◌≡◌, map}
use Rattle.std.specs.Vec.Iter.{into_iter_items}
use Rattle.serial_check.specs.Reports.{IsWithin, batches}
use Rattle.serial_check.proofs.checks.read_batches.Given as goal

abbrev pub invariant-loop-number : goal.invariant-loop-number
invariant-loop-number l =
    (goal.iterator-loop-number).can_next l.number-iterator ×
    (goal.iterator-loop-number).is_finite l.number-iterator ×
    (batches l.catalog l.report l.reading (map (λ batch. (batch.0, batch.1.items)) (into_iter_items l.number-iterator)) ≡ batches l.catalog l.report
    l.fn.reading (map (λ batch. (batch.0, batch.1.items)) l.fn.script.items)) ×
    IsWithin l.report l.reading
