use denote.Param.Send.{sendable}
use Rattle.std.proofs.Crossing.{crosses}
use Rattle.std.proofs.lemmas.Result.{IfOk-weaker}
use Rattle.tbl_snapshot.proofs.snapshots.Snapshot.TheSendSync as snapshot
use Rattle.proc_exec.proofs.outcomes.Waiting.TheSendSync as one
use Rattle.proc_lang.specs.Catalogs.{run_of}
use Rattle.proc_lang.proofs.Crosses.{catalog_sync}
use Rattle.fallback_locks.proofs.Filling.{are_done}
use Rattle.fallback_locks.proofs.rounds.run_wave.Goals as goal

pub gather-requires-sync-T : goal.gather-requires-sync-T
gather-requires-sync-T g c κs within = search (one.the_sync, snapshot.the_sync, catalog_sync, crosses, sendable) depth 30

pub returns : goal.returns
returns g c = IfOk-weaker c.gather.result _ _ (λ dones given. are_done (run_of c.args.catalog.now) c.args.snapshot c.args.waiting.now c.args.places.now
    dones.items given) c.gather.ensures
