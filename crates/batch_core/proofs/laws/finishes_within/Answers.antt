use Rattle.batch_core.proofs.Progress.{finishes_within}
use Rattle.batch_core.proofs.laws.finishes_within.Goals as goal

pub returns : goal.returns
returns c tree state handed rest h = finishes_within tree state handed rest h
