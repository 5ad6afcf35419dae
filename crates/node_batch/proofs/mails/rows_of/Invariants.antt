use Rattle.std.proofs.Common.{◌≡◌, take}
use Rattle.std.specs.Prelude.{filter, ◌==◌}
use Rattle.node_batch.specs.Mails.{node_of}
use Rattle.node_batch.proofs.mails.rows_of.Given as goal

abbrev pub invariant-loop-write : goal.invariant-loop-write
invariant-loop-write l = l.rows.items ≡ filter (λ row. node_of l.nodes row.0 == l.node) (take l.write-index l.outcome.writes)
