use Rattle.batch_rules.proofs.Causes.{waits_for_earlier}
use Rattle.batch_rules.proofs.laws.waits_for_earlier.Goals as goal

pub returns : goal.returns
returns g c on rule list = waits_for_earlier on rule list
