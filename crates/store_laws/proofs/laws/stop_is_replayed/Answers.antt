use Rattle.store_laws.proofs.RepliesOfRuns.{stop_prints}
use Rattle.store_laws.proofs.laws.stop_is_replayed.Goals as goal

pub returns : goal.returns
returns c settings again same files k later text images l found reopens = stop_prints settings files k later again same text images l found reopens
