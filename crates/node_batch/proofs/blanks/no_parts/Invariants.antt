use Rattle.std.proofs.Common.{◌≡◌, map}
use Rattle.std.specs.Prelude.{replicate}
use Rattle.node_rules.specs.Dues.{no_sets}
use Rattle.node_batch.specs.Letters.{sets_of}
use Rattle.node_batch.proofs.blanks.no_parts.Given as goal

abbrev pub invariant-loop : goal.invariant-loop
invariant-loop l = map sets_of l.parts.items ≡ replicate l.counter no_sets
