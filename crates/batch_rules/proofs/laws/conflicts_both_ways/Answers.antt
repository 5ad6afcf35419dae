use Rattle.batch_rules.proofs.Waves.{conflicts_both_ways}
use Rattle.batch_rules.proofs.laws.conflicts_both_ways.Goals as goal

pub returns : goal.returns
returns g c R o anti = conflicts_both_ways o anti
