use Rattle.std.proofs.Common.{◌≡◌, length}
use Rattle.std.specs.List.{All}
use Rattle.replica_run.specs.Replicas.{unmarked}
use Rattle.replica_run.proofs.replicas.copies_of.Given as goal

abbrev pub invariant-loop : goal.invariant-loop
invariant-loop l = record {
  same : All (λ copy. copy ≡ unmarked l.engine) l.copies.items;
  count : length l.copies.items ≡ l.counter;
}
