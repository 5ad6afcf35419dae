use Rattle.node_turns.proofs.Starting.{next_node, all_nodes_done}
use Rattle.node_turns.proofs.laws.starts_on.Goals as goal

pub returns : goal.returns
returns g c R net is start end w n old s = record {
  next = next_node net is start end w n old s;
  all = all_nodes_done net is start end w n old s;
}
