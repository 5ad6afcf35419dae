use Rattle.batch_core.proofs.Carriers.{steps_by}
use Rattle.batch_core.proofs.laws.steps_by.Goals as goal

pub returns : goal.returns
returns g c tree request_of by of state handed h = steps_by tree request_of by of state handed h
