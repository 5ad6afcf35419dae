use Rattle.range_rules.proofs.Moving.{progress}
use Rattle.range_rules.proofs.laws.progress.Goals as goal

pub returns : goal.returns
returns c tree act rule start list number some = progress tree act rule start list number some
