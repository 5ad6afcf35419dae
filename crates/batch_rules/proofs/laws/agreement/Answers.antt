use Rattle.batch_rules.proofs.Agree.{agreement}
use Rattle.batch_rules.proofs.laws.agreement.Goals as goal

pub returns : goal.returns
returns g c R o anti = agreement o anti
