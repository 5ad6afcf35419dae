use Rattle.node_batch.proofs.Sames.{is_net}
use Rattle.node_batch.proofs.laws.is_net.Goals as goal

pub returns : goal.returns
returns c plan rule nodes some = is_net plan rule nodes some
