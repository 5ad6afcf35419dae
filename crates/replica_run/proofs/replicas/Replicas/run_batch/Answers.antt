use Rattle.std.proofs.Common.{subst, sym, List}
use Rattle.std.specs.List.{All}
use Rattle.aria_base.specs.declared.calls.Call.{Call}
use Rattle.batch_engine.specs.Engines.{Between}
use Rattle.replica_run.specs.Replicas.{MayRun}
use Rattle.replica_run.proofs.Likeness.{told, some_ran}
use Rattle.replica_run.proofs.replicas.Replicas.run_batch.Goals as goal

pub run_all-requires-clause-some : goal.run_all-requires-clause-some
run_all-requires-clause-some g c κs within = c.self.invariant.some

pub run_all-requires-clause-may : goal.run_all-requires-clause-may
run_all-requires-clause-may g c κs within =
    subst (λ (l : List Call). All (MayRun c.args.config.now l) c.self.inside.engines.items) (sym c.from_vec.ensures)
    (subst (λ (l : List Between). All (MayRun c.args.config.now c.args.new.items) l) (sym c.self.view_is) c.requires)

pub take_apart-requires : goal.take_apart-requires
take_apart-requires g c =
    some_ran c.args.config.now c.from_vec.result c.self.inside.engines.items c.in_ok-rans.rans.items c.in_ok-rans.ensures c.self.invariant.some

pub invariant_of-replicas : goal.invariant_of-replicas
invariant_of-replicas g c =
    (told c.args.config.now c.args.new.items c.from_vec.result c.args.self c.self.inside.engines.items c.in_ok-engines.engines.items c.in_ok-rans.rans.items
    c.in_ok-engines.answer
    c.from_vec.ensures c.self.view_is c.self.invariant c.in_ok-rans.ensures c.in_ok-engines.ensures.engines c.in_ok-engines.ensures.answer).alike

pub returns-clause-each : goal.returns-clause-each
returns-clause-each g c =
    (told c.args.config.now c.args.new.items c.from_vec.result c.args.self c.self.inside.engines.items c.in_ok-engines.engines.items c.in_ok-rans.rans.items
    c.in_ok-engines.answer
    c.from_vec.ensures c.self.view_is c.self.invariant c.in_ok-rans.ensures c.in_ok-engines.ensures.engines c.in_ok-engines.ensures.answer).each

pub returns-clause-answer : goal.returns-clause-answer
returns-clause-answer g c =
    (told c.args.config.now c.args.new.items c.from_vec.result c.args.self c.self.inside.engines.items c.in_ok-engines.engines.items c.in_ok-rans.rans.items
    c.in_ok-engines.answer
    c.from_vec.ensures c.self.view_is c.self.invariant c.in_ok-rans.ensures c.in_ok-engines.ensures.engines c.in_ok-engines.ensures.answer).answer

pub returns-clause-serial : goal.returns-clause-serial
returns-clause-serial g c =
    (told c.args.config.now c.args.new.items c.from_vec.result c.args.self c.self.inside.engines.items c.in_ok-engines.engines.items c.in_ok-rans.rans.items
    c.in_ok-engines.answer
    c.from_vec.ensures c.self.view_is c.self.invariant c.in_ok-rans.ensures c.in_ok-engines.ensures.engines c.in_ok-engines.ensures.answer).serial

pub returns-clause-progress : goal.returns-clause-progress
returns-clause-progress g c =
    (told c.args.config.now c.args.new.items c.from_vec.result c.args.self c.self.inside.engines.items c.in_ok-engines.engines.items c.in_ok-rans.rans.items
    c.in_ok-engines.answer
    c.from_vec.ensures c.self.view_is c.self.invariant c.in_ok-rans.ensures c.in_ok-engines.ensures.engines c.in_ok-engines.ensures.answer).progress
