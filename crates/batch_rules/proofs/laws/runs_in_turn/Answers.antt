use Rattle.batch_rules.proofs.Serials.{runs_in_turn}
use Rattle.batch_rules.proofs.laws.runs_in_turn.Goals as goal

pub returns : goal.returns
returns g c R o anti = runs_in_turn o anti
