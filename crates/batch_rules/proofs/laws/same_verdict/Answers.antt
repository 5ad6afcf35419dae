use Rattle.batch_rules.proofs.Numberings.{same_verdict}
use Rattle.batch_rules.proofs.laws.same_verdict.Goals as goal

pub returns : goal.returns
returns g c on earlier me also others you rule = same_verdict on earlier me also others you rule
