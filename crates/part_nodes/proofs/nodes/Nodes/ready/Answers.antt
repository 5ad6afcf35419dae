use Rattle.part_nodes.proofs.Skipped.{world_ready}
use Rattle.part_nodes.proofs.Wholes.{one_database}
use Rattle.part_nodes.proofs.nodes.Nodes.ready.Goals as goal

pub returns : goal.returns
returns c = one_database c.args.self.now.start.value c.args.self.now.world (world_ready _ c.requires.ready)
