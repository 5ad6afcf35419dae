use Rattle.batch_rules.proofs.Agree.{outside-is}
use Rattle.batch_rules.proofs.laws.outside.Goals as goal

pub returns : goal.returns
returns g c R o anti = outside-is o anti
