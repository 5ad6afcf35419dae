use Rattle.store_laws.proofs.RepliesOfRuns.{run_replayed}
use Rattle.store_laws.proofs.laws.run_is_replayed.Goals as goal

pub returns : goal.returns
returns c settings images k later text front rest is = run_replayed settings images k later text front rest is
