use Rattle.std.proofs.Common.{◌≡◌, take}
use Rattle.std.specs.Prelude.{filter, ◌==◌}
use Rattle.node_batch.specs.Mails.{node_of}
use Rattle.node_batch.proofs.mails.reads_of.Given as goal

abbrev pub invariant-loop-key : goal.invariant-loop-key
invariant-loop-key l = l.keys.items ≡ filter (λ k. node_of l.nodes k == l.node) (take l.key-index l.outcome.reads)
