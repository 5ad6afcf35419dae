use Rattle.example_scans.proofs.Suiting.{orders_suit}
use Rattle.example_scans.proofs.run.Goals as goal

pub run_batch-requires-clause-suits : goal.run_batch-requires-clause-suits
run_batch-requires-clause-suits g c κs within = orders_suit c.loop-asked.engine.plan.tables c.loop-asked.invariant.has
