use Rattle.batch_rules.proofs.Waves.{waves_law}
use Rattle.batch_rules.proofs.laws.late_waves.Goals as goal

pub returns : goal.returns
returns g c R o anti is_done declared_of tree db list = waves_law o anti is_done declared_of tree db list
