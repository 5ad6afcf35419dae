use Rattle.batch_rules.proofs.Judges.{decided_each}
use Rattle.batch_rules.proofs.laws.decided_each.Goals as goal

pub returns : goal.returns
returns g c on rule list = decided_each on rule list
