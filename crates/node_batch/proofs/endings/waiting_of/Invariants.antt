use Rattle.std.proofs.Common.{◌≡◌, ◌++◌, drop}
use Rattle.node_batch.specs.Endings.{all_waiting}
use Rattle.node_batch.proofs.endings.waiting_of.Given as goal

abbrev pub invariant-loop-place : goal.invariant-loop-place
invariant-loop-place l = l.left.items ++ all_waiting (drop l.place l.list) (drop l.place l.fates) ≡ all_waiting l.list l.fates
