use Rattle.std.proofs.Common.{◌≡◌}
use Rattle.std.specs.Prelude.{replicate}
use Rattle.node_batch.specs.Holds.{no_hold}
use Rattle.node_batch.proofs.blanks.no_holds.Given as goal

abbrev pub invariant-loop : goal.invariant-loop
invariant-loop l = l.holds.items ≡ replicate l.counter no_hold
