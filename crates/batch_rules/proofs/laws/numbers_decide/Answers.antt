use Rattle.batch_rules.proofs.Numberings.{numbers_decide}
use Rattle.batch_rules.proofs.laws.numbers_decide.Goals as goal

pub returns : goal.returns
returns g c R keys number reads writes earlier me rule = numbers_decide R keys number reads writes earlier me rule
