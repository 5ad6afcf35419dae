use Rattle.node_batch.specs.Sames.{same_message}
use Rattle.node_batch.proofs.Kept.{many_runs}
use Rattle.node_seats.proofs.seats.Seat.first_runs.Goals as goal

pub first_runs-requires-clause-runs : goal.first_runs-requires-clause-runs
first_runs-requires-clause-runs c = let f = c.requires.shown in many_runs c.args.catalog.now f.0 same_message f.1 _ _ _ _ _ _ _ _ _ f.2
