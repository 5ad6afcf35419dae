use Rattle.std.proofs.Common.{◌≡◌, ◌+◌, sym, subst, arith}
use Rattle.node_seats.proofs.Keeping.{stands}
use Rattle.node_seats.proofs.Putting.{HasBefore, none_before, one_before, all_before}
use Rattle.node_world.proofs.worlds.World.tables.Goals as goal

pub loop-node-init : goal.loop-node-init
loop-node-init c = λ whole parts. none_before whole c.args.self.now.nodes _ c.in_ok-rows.ensures

pub loop-node-preserved : goal.loop-node-preserved
loop-node-preserved c = λ whole parts.
    let w = c.args.self.now in
    let n = c.loop-node.node in
    let s = c.index-seat.result.now in
    let many = c.requires.seats in
    let low = c.loop-node-test.true in
    subst (HasBefore whole w.nodes (n + 1)) (sym c.in_ok-put_rows_at.ensures)
    (one_before whole w.nodes n c.loop-node.rows s.bench.rows (c.loop-node.invariant whole parts)
    (parts n s (stands w.seats.items n s (omega arith) c.index-seat.ensures)))

pub returns : goal.returns
returns c = λ whole parts.
    let w = c.args.self.now in
    let low = c.loop-node-test.false in
    let high = c.loop-node.auto.node-end in
    let last : c.loop-node.node ≡ w.nodes = omega arith in
    all_before whole w.nodes c.requires.some c.loop-node.rows (subst (λ n. HasBefore whole w.nodes n c.loop-node.rows) last (c.loop-node.invariant whole parts))
