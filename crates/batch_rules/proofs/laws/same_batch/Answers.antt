use Rattle.batch_rules.proofs.Carriers.{same_batch}
use Rattle.batch_rules.proofs.laws.same_batch.Goals as goal

pub returns : goal.returns
returns g c R of by is_done tree rule percent start list = same_batch of by is_done tree rule percent start list
