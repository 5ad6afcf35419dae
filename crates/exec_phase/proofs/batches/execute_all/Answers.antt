use denote.Param.Send.{sendable}
use Rattle.std.proofs.Crossing.{crosses}
use Rattle.aria_base.proofs.calls.Request.TheSendSync as request
use Rattle.tbl_snapshot.proofs.snapshots.Snapshot.TheSendSync as snapshot
use Rattle.proc_lang.specs.Catalogs.{run_of}
use Rattle.proc_lang.proofs.Crosses.{catalog_sync}
use Rattle.proc_exec.specs.Outcomes.{outcome_at}
use Rattle.work_crew.proofs.Lists.{all_as_map}
use Rattle.exec_phase.specs.Batches.{ComesTo}
use Rattle.exec_phase.proofs.batches.execute_all.Goals as goal

pub gather-requires-sync-T : goal.gather-requires-sync-T
gather-requires-sync-T g c κs within = search (request.the_sync, snapshot.the_sync, catalog_sync, crosses, sendable) depth 30

pub returns : goal.returns
returns g c =
    all_as_map (ComesTo (outcome_at (run_of c.args.catalog.now) c.args.snapshot) c.args.list.now) (outcome_at (run_of c.args.catalog.now) c.args.snapshot)
    c.args.list.now (λ v. v.items) c.gather.result
    (λ place output d gives. gives d) c.gather.ensures
