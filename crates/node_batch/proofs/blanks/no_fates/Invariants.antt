use Rattle.std.proofs.Common.{◌≡◌, None}
use Rattle.std.specs.Prelude.{replicate}
use Rattle.node_batch.proofs.blanks.no_fates.Given as goal

abbrev pub invariant-loop : goal.invariant-loop
invariant-loop l = l.fates.items ≡ replicate l.counter None
