use Rattle.std.proofs.Common.{◌≡◌, subst, sym, arith, drop, List}
use Rattle.std.specs.List.{All}
use Rattle.batch_engine.specs.Engines.{Between}
use Rattle.replica_run.specs.Replicas.{AreAlike, unmarked}
use Rattle.replica_run.proofs.Likeness.{alike_copies}
use Rattle.replica_run.proofs.replicas.Replicas.begin.Goals as goal

pub invariant_of-replicas : goal.invariant_of-replicas
invariant_of-replicas c = subst (λ (l : List Between). AreAlike l) (sym c.in_ok-engines.ensures)
    (alike_copies c.args.first c.in_ok-copies.copies.items c.in_ok-copies.ensures.same (omega (arith, c.in_ok-copies.ensures.count, c.requires)))

pub returns-clause-copies : goal.returns-clause-copies
returns-clause-copies c = subst (λ (l : List Between). All (λ copy. copy ≡ unmarked c.args.first) (drop 1 l))
    (sym c.in_ok-engines.ensures) c.in_ok-copies.ensures.same
