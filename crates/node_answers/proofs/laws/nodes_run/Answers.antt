use Rattle.node_answers.proofs.Stepped.{is_run}
use Rattle.node_answers.proofs.laws.nodes_run.Goals as goal

pub returns : goal.returns
returns c plan rule nodes same start batches done le = is_run plan rule nodes same start batches done le
