use Rattle.batch_rules.proofs.Places.{each_once}
use Rattle.batch_rules.proofs.laws.each_once.Goals as goal

pub returns : goal.returns
returns g c by on rule list lates = each_once by on rule list lates
