use Rattle.std.proofs.Common.{◌≡◌, ◌∙◌, ◌<◌, ◌≤◌, ℕ, List, sym, ap, arith, subst}
use Rattle.aria_base.specs.Shares.{all_shares}
use Rattle.work_claim.specs.Seats.{IsEachOnce}
use Rattle.work_crew.specs.Gathered.{AreGiven, places}
use Rattle.work_crew.proofs.Fills.{given_by}
use Rattle.baton_crew.proofs.Relayed.{begins, first_hand, rows_end, once_end}
use Rattle.baton_crew.proofs.relays.relay.Goals as goal

pub set_up-requires : goal.set_up-requires
set_up-requires g c = begins (g.W.Course.plan c.args.work.now) c.requires.course c.args.work.now c.in_ok-words.words.items c.deref-2.result.now
    c.args.rows.items c.in_ok-words.ensures.counts c.requires.rows c.deref-2.ensures.value

pub spread-requires-clause-hand : goal.spread-requires-clause-hand
spread-requires-clause-hand g c κs within = (
  all_shares,
  first_hand g.W.Course.plan g.W.Course.gives c.in_ok-table.table.shared.key c.args.work.now c.in_ok-table.ensures.key c.in_ok-table.table.shared.table_id
      c.in_ok-nexts.nexts
      c.requires.course c.deref-2.result.now c.args.rows.items _
      (subst (λ ws. Rattle.baton_crew.specs.Plans.AreCounts (g.W.Course.plan c.args.work.now) (g.W.Course.plan c.args.work.now).items ws)
      (sym c.deref-2.ensures.value) c.in_ok-words.ensures.counts) c.requires.rows
      c.in_ok-table.ensures.counts.0 c.in_ok-table.ensures.counts.1 c.in_ok-nexts.ensures.nexts
      c.in_ok-table.ensures.seat.0 c.in_ok-table.ensures.seat.1 c.in_ok-words.ensures.ready c.new.ensures.items,
  (let h = c.requires.workers.1 in omega arith),
)

-- the hand has ended: its state at the end, from that at the start
pub taken_down-requires-clause-own : goal.taken_down-requires-clause-own
taken_down-requires-clause-own g c =
    (c.in_ok-seat.ensures all_shares (first_hand g.W.Course.plan g.W.Course.gives c.in_ok-table.table.shared.key c.args.work.now c.in_ok-table.ensures.key
    c.in_ok-table.table.shared.table_id c.in_ok-nexts.nexts
    c.requires.course c.deref-2.result.now c.args.rows.items _
    (subst (λ ws. Rattle.baton_crew.specs.Plans.AreCounts (g.W.Course.plan c.args.work.now) (g.W.Course.plan c.args.work.now).items ws)
    (sym c.deref-2.ensures.value) c.in_ok-words.ensures.counts) c.requires.rows
    c.in_ok-table.ensures.counts.0 c.in_ok-table.ensures.counts.1 c.in_ok-nexts.ensures.nexts
    c.in_ok-table.ensures.seat.0 c.in_ok-table.ensures.seat.1 c.in_ok-words.ensures.ready c.new.ensures.items)).at_board.own

pub returns-clause-rows : goal.returns-clause-rows
returns-clause-rows g c =
    let ended = c.in_ok-seat.ensures all_shares (first_hand g.W.Course.plan g.W.Course.gives c.in_ok-table.table.shared.key c.args.work.now
    c.in_ok-table.ensures.key c.in_ok-table.table.shared.table_id c.in_ok-nexts.nexts
    c.requires.course c.deref-2.result.now c.args.rows.items _
    (subst (λ ws. Rattle.baton_crew.specs.Plans.AreCounts (g.W.Course.plan c.args.work.now) (g.W.Course.plan c.args.work.now).items ws)
    (sym c.deref-2.ensures.value) c.in_ok-words.ensures.counts) c.requires.rows
    c.in_ok-table.ensures.counts.0 c.in_ok-table.ensures.counts.1 c.in_ok-nexts.ensures.nexts
    c.in_ok-table.ensures.seat.0 c.in_ok-table.ensures.seat.1 c.in_ok-words.ensures.ready c.new.ensures.items) in
    rows_end g.W.Course.plan g.W.Course.gives c.in_ok-table.table.shared.key c.args.work.now c.in_ok-table.ensures.key c.in_ok-table.table.shared.table_id
    c.in_ok-nexts.nexts
    c.in_ok-seat.field-0 ended _ c.in_ok-rows.rows.items c.in_ok-rows.ensures.1.1 c.slots.result c.in_ok-rows.ensures.0 c.slots.ensures

pub in_order-requires : goal.in_order-requires
in_order-requires g c =
    let ended = c.in_ok-seat.ensures all_shares (first_hand g.W.Course.plan g.W.Course.gives c.in_ok-table.table.shared.key c.args.work.now
    c.in_ok-table.ensures.key c.in_ok-table.table.shared.table_id c.in_ok-nexts.nexts
    c.requires.course c.deref-2.result.now c.args.rows.items _
    (subst (λ ws. Rattle.baton_crew.specs.Plans.AreCounts (g.W.Course.plan c.args.work.now) (g.W.Course.plan c.args.work.now).items ws)
    (sym c.deref-2.ensures.value) c.in_ok-words.ensures.counts) c.requires.rows
    c.in_ok-table.ensures.counts.0 c.in_ok-table.ensures.counts.1 c.in_ok-nexts.ensures.nexts
    c.in_ok-table.ensures.seat.0 c.in_ok-table.ensures.seat.1 c.in_ok-words.ensures.ready c.new.ensures.items) in
    subst (IsEachOnce (places c.in_ok-seat.field-0.done.items)) (sym c.items.ensures)
    (once_end g.W.Course.plan g.W.Course.gives c.in_ok-table.table.shared.key c.args.work.now c.in_ok-table.ensures.key c.in_ok-table.table.shared.table_id
    c.in_ok-nexts.nexts
    c.in_ok-seat.field-0 ended _ c.in_ok-rows.rows.items c.in_ok-rows.ensures.1.1)

pub returns-clause-given : goal.returns-clause-given
returns-clause-given g c =
    let ended = c.in_ok-seat.ensures all_shares (first_hand g.W.Course.plan g.W.Course.gives c.in_ok-table.table.shared.key c.args.work.now
    c.in_ok-table.ensures.key c.in_ok-table.table.shared.table_id c.in_ok-nexts.nexts
    c.requires.course c.deref-2.result.now c.args.rows.items _
    (subst (λ ws. Rattle.baton_crew.specs.Plans.AreCounts (g.W.Course.plan c.args.work.now) (g.W.Course.plan c.args.work.now).items ws)
    (sym c.deref-2.ensures.value) c.in_ok-words.ensures.counts) c.requires.rows
    c.in_ok-table.ensures.counts.0 c.in_ok-table.ensures.counts.1 c.in_ok-nexts.ensures.nexts
    c.in_ok-table.ensures.seat.0 c.in_ok-table.ensures.seat.1 c.in_ok-words.ensures.ready c.new.ensures.items) in
    subst (λ n. AreGiven (g.W.Course.gives c.args.work.now) n c.in_ok-outputs.outputs.items) c.items.ensures
    (given_by (g.W.Course.gives c.args.work.now) c.in_ok-seat.field-0.done.items ended.at_board.is.given _ c.in_ok-outputs.outputs.items
    c.in_ok-outputs.ensures)
