use Rattle.batch_rules.proofs.Maps.{map_after-is}
use Rattle.batch_rules.proofs.laws.frame.Goals as goal

pub returns : goal.returns
returns g c R o anti = map_after-is o anti
