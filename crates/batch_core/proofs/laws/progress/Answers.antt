use Rattle.batch_core.proofs.Progress.{progress}
use Rattle.batch_core.proofs.laws.progress.Goals as goal

pub returns : goal.returns
returns c tree state handed some = progress tree state handed some
