use Rattle.nodes_command.proofs.States.{done_runs}
use Rattle.nodes_command.proofs.bases.Base.list.Goals as goal

pub list_nodes-requires : goal.list_nodes-requires
list_nodes-requires c = done_runs c.args.catalog.now c.args.self.now c.in-Runs.nodes c.in-Runs.is c.requires
