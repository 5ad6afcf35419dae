use Rattle.batch_rules.proofs.Writers.{one_writer}
use Rattle.batch_rules.proofs.laws.one_writer.Goals as goal

pub returns : goal.returns
returns g c R o anti by rule list = one_writer o anti by rule list
