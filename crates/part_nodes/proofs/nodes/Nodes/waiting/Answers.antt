use Rattle.std.proofs.Common.{arith}
use Rattle.node_seats.proofs.Keeping.{stands}
use Rattle.part_nodes.proofs.Skipped.{world_ready}
use Rattle.part_nodes.proofs.Wholes.{first_waits}
use Rattle.part_nodes.proofs.nodes.Nodes.waiting.Goals as goal

pub index-requires : goal.index-requires
index-requires c =
    let many = c.requires.ready.keeps.many_seats in
    let some = c.requires.ready.keeps.some_node in
    let ok = c.args.self.now.world.seats.ok.0 in
    omega arith

pub returns : goal.returns
returns c =
    let n = c.args.self.now in
    let many = c.requires.ready.keeps.many_seats in
    let some = c.requires.ready.keeps.some_node in
    let at = stands n.world.seats.items 0 c.index.result.now (omega arith) c.index.ensures in
    first_waits n.start.value n.world (world_ready _ c.requires.ready) c.index.result.now at
