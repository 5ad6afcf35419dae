use Rattle.serial_check.proofs.Crowded as law
use Rattle.serial_check.proofs.laws.crowded_is_run.Goals as goal

pub returns : goal.returns
returns c = law.crowded_is_run
