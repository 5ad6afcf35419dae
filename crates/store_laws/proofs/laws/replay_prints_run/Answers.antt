use Rattle.store_laws.proofs.RepliesOfRuns.{replay_prints}
use Rattle.store_laws.proofs.laws.replay_prints_run.Goals as goal

pub returns : goal.returns
returns c settings again same images k later text disk holds left may found reads =
    replay_prints settings images k later again same text disk holds left may found reads
