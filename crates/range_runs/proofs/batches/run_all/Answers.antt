use denote.Param.Send.{sendable}
use Rattle.std.proofs.Crossing.{crosses}
use Rattle.proc_lang.proofs.Crosses.{catalog_sync}
use Rattle.range_runs.proofs.batches.run_all.Goals as goal

pub run_by-requires-sync-C : goal.run_by-requires-sync-C
run_by-requires-sync-C g c κs within = search (catalog_sync, crosses, sendable) depth 30
