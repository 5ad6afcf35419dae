use Rattle.batch_core.proofs.Serial.{keeps_numbers}
use Rattle.batch_core.proofs.laws.keeps_numbers.Goals as goal

pub returns : goal.returns
returns c tree state handed h = keeps_numbers tree state handed h
