use Rattle.batch_rules.proofs.Places.{progress}
use Rattle.batch_rules.proofs.laws.progress.Goals as goal

pub returns : goal.returns
returns g c by on rule first rest lates = progress by on rule first rest lates
