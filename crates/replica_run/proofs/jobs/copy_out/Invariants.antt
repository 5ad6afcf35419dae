use Rattle.std.proofs.Common.{◌≡◌, ◌++◌, map}
use Rattle.std.specs.Vec.Iter.{into_iter_items}
use Rattle.replica_run.specs.Jobs.{job_of}
use Rattle.replica_run.proofs.jobs.copy_out.Given as goal

abbrev pub invariant-loop-engine : goal.invariant-loop-engine
invariant-loop-engine l =
    goal.iterator-loop-engine.can_next l.engine-iterator ×
    goal.iterator-loop-engine.is_finite l.engine-iterator ×
    (l.jobs.items ++ map (job_of l.calls) (into_iter_items l.engine-iterator)
    ≡ l.initial.jobs.items ++ map (job_of l.calls) (into_iter_items l.initial.engine-iterator))
