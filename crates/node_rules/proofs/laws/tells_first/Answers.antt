use Rattle.node_rules.proofs.Events.{is_first}
use Rattle.node_rules.proofs.laws.tells_first.Goals as goal

pub returns : goal.returns
returns g c R net is start w reached m sent current new = is_first net is start w reached m sent current new
