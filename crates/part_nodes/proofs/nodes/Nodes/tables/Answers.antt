use Rattle.part_nodes.specs.Asked.{state_in}
use Rattle.node_world.specs.Worlds.{done_in}
use Rattle.part_nodes.proofs.Skipped.{world_ready}
use Rattle.part_nodes.proofs.Wholes.{parts_of}
use Rattle.part_nodes.proofs.nodes.Nodes.tables.Goals as goal

pub tables-requires-clause-some : goal.tables-requires-clause-some
tables-requires-clause-some c = c.requires.ready.keeps.some_node

pub tables-requires-clause-seats : goal.tables-requires-clause-seats
tables-requires-clause-seats c = c.requires.ready.keeps.many_seats

pub returns : goal.returns
returns c =
    let n = c.args.self.now in
    c.in_ok-rows.ensures (state_in n.start.value n.world (done_in n.world 0)).rows
    (parts_of n.start.value n.world (world_ready _ c.requires.ready) c.requires.level)
