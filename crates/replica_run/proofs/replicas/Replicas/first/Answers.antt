use Rattle.std.proofs.Common.{◌≡◌, subst, List}
use Rattle.std.specs.List.{All}
use Rattle.batch_engine.specs.Engines.{Between}
use Rattle.replica_run.specs.Replicas.{unmarked}
use Rattle.replica_run.proofs.Likeness.{alike_first}
use Rattle.replica_run.proofs.replicas.Replicas.first.Goals as goal

pub returns-clause-alike : goal.returns-clause-alike
returns-clause-alike c = subst (λ (l : List Between). All (λ engine. unmarked engine ≡ unmarked c.head-first.result.now) l) c.self.view_is
    (alike_first c.self.inside.engines.items c.head-first.result.now c.self.invariant c.head-first.ensures)
