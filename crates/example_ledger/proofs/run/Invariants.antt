use Rattle.std.specs.Prelude.{None}
use Rattle.serving.specs.Lives.{IsRunnable}
use Rattle.serving.specs.Stored.{IsLogging}
use Rattle.example_ledger.proofs.run.Given as goal

abbrev pub invariant-loop-lines : goal.invariant-loop-lines
invariant-loop-lines g l = record {
  runnable : IsRunnable l.ledger;
  logging : IsLogging (record { now = 0; file_at = λ _ _. None; faults = l.disk.faults }) l.ledger;
}
