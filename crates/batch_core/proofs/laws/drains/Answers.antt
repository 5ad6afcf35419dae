use Rattle.batch_core.proofs.Progress.{drains}
use Rattle.batch_core.proofs.laws.drains.Goals as goal

pub returns : goal.returns
returns c tree state batches quiet enough = drains tree state batches quiet enough
