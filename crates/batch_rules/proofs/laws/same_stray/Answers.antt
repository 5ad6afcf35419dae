use Rattle.batch_rules.proofs.Agree.{strays}
use Rattle.batch_rules.proofs.laws.same_stray.Goals as goal

pub returns : goal.returns
returns g c R o = strays o
