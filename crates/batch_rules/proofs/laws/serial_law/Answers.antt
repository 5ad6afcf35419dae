use Rattle.batch_rules.proofs.Fates.{serial_law}
use Rattle.batch_rules.proofs.laws.serial_law.Goals as goal

pub returns : goal.returns
returns g c R o anti = serial_law o anti
