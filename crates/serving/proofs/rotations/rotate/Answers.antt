use Rattle.std.proofs.Common.{◌≡◌, ◌≤◌, sym, subst, ℕ, true, List}
use Rattle.std.specs.List.{All}
use Rattle.aria_base.specs.Orders.{Database}
use Rattle.aria_base.specs.Schemas.{IsConsistent}
use Rattle.aria_base.specs.declared.calls.Request.{Request}
use Rattle.aria_base.specs.declared.limits.TheConstants.{GREATEST_NUMBER}
use Rattle.proc_lang.specs.Catalogs.{Plan, takes}
use Rattle.store_files.specs.Stores.{next_head}
use Rattle.serving.proofs.Storing.{carries, rotate_held, rotate_leaves}
use Rattle.serving.proofs.rotations.rotate.Goals as goal

pub rotate-laid-requires-clause-few : goal.rotate-laid-requires-clause-few
rotate-laid-requires-clause-few g c = subst (λ (n : ℕ). n ≤ GREATEST_NUMBER) (sym c.batches-batches.ensures) c.ready.ensures.batches_within

pub rotate-laid-requires-clause-requests : goal.rotate-laid-requires-clause-requests
rotate-laid-requires-clause-requests g c = subst (λ (n : ℕ). n ≤ GREATEST_NUMBER) (sym c.requests-requests.ensures) c.ready.ensures.requests_within

pub rotate-laid-requires-clause-rows : goal.rotate-laid-requires-clause-rows
rotate-laid-requires-clause-rows g c =
    subst (λ (plan : Plan). IsConsistent plan.tables c.tables.result.now) (sym c.catalog.ensures)
    (subst (λ (rows : Database). IsConsistent c.args.engine.now.plan.tables rows) (sym c.tables.ensures) c.ready.ensures.consistent)

pub rotate-laid-requires-clause-calls : goal.rotate-laid-requires-clause-calls
rotate-laid-requires-clause-calls g c =
    subst (λ (plan : Plan). All (λ request. takes plan request.call ≡ true) c.carried.result.now) (sym c.catalog.ensures)
    (subst (λ (held : List Request). All (λ request. takes c.args.engine.now.plan request.call ≡ true) held) (sym c.carried.ensures) c.ready.ensures.fit)

pub rotate-laid-requires-clause-carried : goal.rotate-laid-requires-clause-carried
rotate-laid-requires-clause-carried g c =
    carries (next_head c.args.store.now.files.head c.args.config.now.rule c.args.config.now.fallback c.batches-batches.result c.requests-requests.result)
    c.args.engine.now c.carried.result.now c.carried.ensures c.requests-requests.ensures c.ready.ensures

pub returns-in-Ok-clause-holds : goal.returns-in-Ok-clause-holds
returns-in-Ok-clause-holds g c =
    rotate_held c.args.store.now c.args.engine.now c.args.config.now c.catalog.result.now c.tables.result.now c.carried.result.now c.batches-batches.result
    c.requests-requests.result
    c.catalog.ensures c.tables.ensures c.carried.ensures c.batches-batches.ensures c.requests-requests.ensures
    (g.D.Disk.history c.rotate-laid.new.disk) c.rotate-laid.new.self c.in-Ok.ensures.stands

pub returns-in-Ok-clause-images : goal.returns-in-Ok-clause-images
returns-in-Ok-clause-images g c k later h =
    rotate_leaves c.args.store.now c.args.engine.now c.args.config.now c.catalog.result.now c.tables.result.now c.carried.result.now c.batches-batches.result
    c.requests-requests.result
    c.catalog.ensures c.tables.ensures c.carried.ensures c.batches-batches.ensures c.requests-requests.ensures
    (g.D.Disk.history c.args.disk.now) (g.D.Disk.history c.rotate-laid.new.disk) k later h
    (c.rotate-laid.ensures.images c.requires.may.open_yet k later h.stands)

pub returns-in-Err-clause-images : goal.returns-in-Err-clause-images
returns-in-Err-clause-images g c k later h =
    rotate_leaves c.args.store.now c.args.engine.now c.args.config.now c.catalog.result.now c.tables.result.now c.carried.result.now c.batches-batches.result
    c.requests-requests.result
    c.catalog.ensures c.tables.ensures c.carried.ensures c.batches-batches.ensures c.requests-requests.ensures
    (g.D.Disk.history c.args.disk.now) (g.D.Disk.history c.rotate-laid.new.disk) k later h
    (c.rotate-laid.ensures.images c.requires.may.open_yet k later h.stands)
