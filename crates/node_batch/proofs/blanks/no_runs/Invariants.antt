use Rattle.std.proofs.Common.{◌≡◌, map, []}
use Rattle.std.specs.Prelude.{replicate}
use Rattle.node_batch.specs.OwnRuns.{told_of}
use Rattle.node_batch.proofs.blanks.no_runs.Given as goal

abbrev pub invariant-loop : goal.invariant-loop
invariant-loop l = map told_of l.runs.items ≡ replicate l.counter []
