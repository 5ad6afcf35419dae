use Rattle.std.proofs.Common.{◌≡◌, ◌++◌, take}
use Rattle.node_batch.proofs.node_batches.push_copies.Given as goal

abbrev pub invariant-loop-request : goal.invariant-loop-request
invariant-loop-request l = l.list.items ≡ l.initial.list.items ++ take l.request-index l.more
