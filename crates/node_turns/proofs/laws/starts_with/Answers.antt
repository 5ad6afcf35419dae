use Rattle.node_turns.proofs.Starting.{is_starting}
use Rattle.node_turns.proofs.laws.starts_with.Goals as goal

pub returns : goal.returns
returns g c R net is start w new reached = is_starting net is start w new reached
