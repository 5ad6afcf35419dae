use Rattle.std.proofs.Common.{◌∙◌}
use Rattle.node_world.proofs.Behind.{behind_is}
use Rattle.part_nodes.proofs.nodes.Nodes.is_behind.Goals as goal

pub returns : goal.returns
returns c = c.is_behind.ensures ∙ behind_is c.args.self.now.start.value c.args.self.now.world c.requires.ready.keeps
