use Rattle.std.proofs.Common.{◌∙◌, sym, false}
use Rattle.serving.proofs.Nexts.{plan_is}
use Rattle.serving.proofs.Served.{logged_holds, logged_leaves, open_store}
use Rattle.serving.proofs.logs.log_batch.Goals as goal

pub returns-in-Ok-clause-holds : goal.returns-in-Ok-clause-holds
returns-in-Ok-clause-holds g c k later h =
    logged_holds c.args.live.now c.args.calls.now c.requires.may c.in-Some.store c.in-Some.is c.catalog-catalog.result.now
    (c.catalog-catalog.ensures ∙ sym (plan_is c.args.live.now.replicas c.first.result.now c.first.ensures.first))
    (g.D.Disk.history c.args.disk.now) k later h (g.D.Disk.history c.append.new.disk) c.append.new.self (c.in-Ok.ensures.stands k later)

pub returns-in-Ok-clause-images : goal.returns-in-Ok-clause-images
returns-in-Ok-clause-images g c k later h =
    logged_leaves c.args.live.now c.args.calls.now c.requires.may c.in-Some.store c.in-Some.is c.catalog-catalog.result.now
    (c.catalog-catalog.ensures ∙ sym (plan_is c.args.live.now.replicas c.first.result.now c.first.ensures.first))
    (g.D.Disk.history c.args.disk.now) k later h false (g.D.Disk.history c.append.new.disk)
    (c.append.ensures.images (open_store c.args.live.now c.in-Some.store c.in-Some.is (g.D.Disk.history c.args.disk.now) c.requires.logs.logging) k later)

pub returns-in-Err-clause-images : goal.returns-in-Err-clause-images
returns-in-Err-clause-images g c k later h =
    logged_leaves c.args.live.now c.args.calls.now c.requires.may c.in-Some.store c.in-Some.is c.catalog-catalog.result.now
    (c.catalog-catalog.ensures ∙ sym (plan_is c.args.live.now.replicas c.first.result.now c.first.ensures.first))
    (g.D.Disk.history c.args.disk.now) k later h false (g.D.Disk.history c.append.new.disk)
    (c.append.ensures.images (open_store c.args.live.now c.in-Some.store c.in-Some.is (g.D.Disk.history c.args.disk.now) c.requires.logs.logging) k later)
