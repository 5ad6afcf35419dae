use Rattle.batch_core.proofs.Serial.{serial_answer}
use Rattle.batch_core.proofs.laws.serial_answer.Goals as goal

pub returns : goal.returns
returns c tree state handed h = serial_answer tree state handed h
