use Rattle.batch_core.proofs.Serial.{all_serial}
use Rattle.batch_core.proofs.laws.serial_run.Goals as goal

pub returns : goal.returns
returns c tree state batches h = all_serial tree state batches h
