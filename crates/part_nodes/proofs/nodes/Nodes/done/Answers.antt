use Rattle.std.proofs.Common.{◌≡◌, length, sym, ◌∙◌, arith}
use Rattle.node_seats.proofs.Keeping.{stands}
use Rattle.node_world.proofs.Behind.{done_at, done_here}
use Rattle.part_nodes.proofs.nodes.Nodes.done.Goals as goal

pub index-requires : goal.index-requires
index-requires c = let many = c.requires.ready.keeps.many_seats in let below = c.requires.below in omega arith

pub returns-clause-done : goal.returns-clause-done
returns-clause-done c =
    let n = c.args.self.now in
    let s = c.index.result.now in
    let many = c.requires.ready.keeps.many_seats in
    let below = c.requires.below in
    let long = c.len.ensures in
    let ok = s.entries.ok.0 in
    let same : c.len.result ≡ length s.entries.items = omega arith in
    same ∙ sym (done_at n.start.value n.world c.requires.ready.keeps c.args.node s
    (stands n.world.seats.items c.args.node s (omega arith) c.index.ensures))

pub returns-clause-node : goal.returns-clause-node
returns-clause-node c =
    let n = c.args.self.now in
    let s = c.index.result.now in
    let many = c.requires.ready.keeps.many_seats in
    let below = c.requires.below in
    let long = c.len.ensures in
    let ok = s.entries.ok.0 in
    let same : c.len.result ≡ length s.entries.items = omega arith in
    same ∙ sym (done_here n.start.value n.world c.requires.ready.keeps c.args.node s
    (stands n.world.seats.items c.args.node s (omega arith) c.index.ensures))
