use Rattle.node_turns.proofs.Going.{given_first}
use Rattle.node_turns.proofs.laws.gives.Goals as goal

pub returns : goal.returns
returns g c R net is start w m reached sent current new = given_first net is start w reached m sent current new
