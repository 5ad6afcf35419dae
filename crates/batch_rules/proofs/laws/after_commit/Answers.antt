use Rattle.batch_rules.proofs.Writers.{after_commit_at}
use Rattle.batch_rules.proofs.laws.after_commit.Goals as goal

pub returns : goal.returns
returns g c R o anti by rule start list k = after_commit_at o anti by rule start list k
