use Rattle.batch_rules.proofs.Causes.{least-is}
use Rattle.batch_rules.proofs.laws.least_holder.Goals as goal

pub returns : goal.returns
returns g c = least-is
