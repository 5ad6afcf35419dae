use Rattle.std.proofs.Common.{◌≡◌, map, ap, ◌∙◌, subst, arith}
use Rattle.std.specs.Map.Iter.{deref_pair}
use Rattle.node_seats.specs.Seats.{AreFirst}
use Rattle.node_seats.proofs.Beginning.{first_none, first_more}
use Rattle.node_seats.proofs.all_seats.first_seats.Goals as goal

pub loop-node-preserved : goal.loop-node-preserved
loop-node-preserved c = first_more c.args.nodes c.args.rows.now c.loop-node.node c.loop-node.seats.items _ _ c.loop-node.invariant c.in_ok-push.ensures.items
    (c.in_ok-first_seat.ensures c.args.rows.now (ap (map deref_pair) c.deref.ensures.value ∙ c.in_ok-listed.ensures))

pub loop-node-init : goal.loop-node-init
loop-node-init c = first_none c.args.nodes c.args.rows.now c.in_ok-seats.seats.items c.in_ok-seats.ensures.items

pub returns : goal.returns
returns c =
    let low = c.loop-node-test.false in
    let high = c.loop-node.auto.node-end in
    let last : c.loop-node.node ≡ c.args.nodes = omega arith in
    subst (λ k. AreFirst c.args.nodes c.args.rows.now k c.loop-node.seats.items) last c.loop-node.invariant
