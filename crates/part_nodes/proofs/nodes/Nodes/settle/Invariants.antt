use Rattle.std.proofs.Common.{◌≡◌, length}
use Rattle.node_rules.specs.Counts.{left}
use Rattle.node_world.specs.Worlds.{net_in, world_in}
use Rattle.part_nodes.specs.Settling.{OnWay, InPass}
use Rattle.node_world.specs.Steps.{IsFixed}
use Rattle.part_nodes.specs.Ready.{AreReady}
use Rattle.part_nodes.proofs.nodes.Nodes.settle.Given as goal

abbrev pub invariant-each : goal.invariant-each
invariant-each l = record {
  fixed : IsFixed l.initial.nodes.world l.nodes.world;
  requests : l.nodes.world.requests ≡ l.initial.nodes.world.requests;
  ready : AreReady l.nodes;
  in_pass : InPass (net_in l.initial.nodes.world) l.initial.nodes.start.value (world_in l.initial.nodes.start.value l.initial.nodes.world)
      (net_in l.nodes.world) l.nodes.start.value (world_in l.nodes.start.value l.nodes.world) l.k;
  all : l.k-end ≡ length (world_in l.initial.nodes.start.value l.initial.nodes.world).sent;
}

abbrev pub invariant-passes : goal.invariant-passes
invariant-passes l = record {
  fixed : IsFixed l.fn.self.world l.nodes.world;
  requests : l.nodes.world.requests ≡ l.fn.self.world.requests;
  ready : AreReady l.nodes;
  on : OnWay (net_in l.fn.self.world) l.fn.self.start.value (world_in l.fn.self.start.value l.fn.self.world)
      (net_in l.nodes.world) l.nodes.start.value (world_in l.nodes.start.value l.nodes.world);
}

abbrev pub decreases-passes : goal.decreases-passes
decreases-passes l = left (net_in l.nodes.world) l.nodes.start.value (world_in l.nodes.start.value l.nodes.world)
