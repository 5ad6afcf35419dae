use Rattle.batch_core.proofs.Consistency.{stays_consistent}
use Rattle.batch_core.proofs.laws.stays_consistent.Goals as goal

pub returns : goal.returns
returns c schema tree state handed each before = stays_consistent schema tree state handed each before
