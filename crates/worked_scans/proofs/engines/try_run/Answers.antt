use Rattle.std.proofs.Common.{rules}
use Rattle.worked_scans.proofs.Suiting.{steps_suit}
use Rattle.worked_scans.proofs.engines.try_run.Goals as goal

pub run_batch-requires-clause-suits : goal.run_batch-requires-clause-suits
run_batch-requires-clause-suits g c κs within = steps_suit c.args.engine.plan.tables (c.may_run-may.ensures (search rules)).tables
