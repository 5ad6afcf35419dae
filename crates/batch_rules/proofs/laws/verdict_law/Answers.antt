use Rattle.batch_rules.proofs.Causes.{verdict_says}
use Rattle.batch_rules.proofs.laws.verdict_law.Goals as goal

pub returns : goal.returns
returns g c on earlier me rule = verdict_says on earlier me rule
