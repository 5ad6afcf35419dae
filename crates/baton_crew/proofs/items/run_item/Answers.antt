use Rattle.std.proofs.Common.{◌≡◌, ◌∙◌, ℕ, suc, sym, ap, ◌<◌, ◌+◌, ◌-◌, ◌≤◌, arith, List, [], refl}
use Rattle.baton_crew.proofs.Running.{within, slots_taken, rows_taken, seat_still, start, item_within, touched_key, rows_key, nexts_key, hand_after, apart_after}
use Rattle.baton_crew.proofs.items.run_item.Goals as goal

pub touches-touched-requires : goal.touches-touched-requires
touches-touched-requires g c = within g.W.Course.plan g.W.Course.gives c.args.board.now.key c.args.work.now c.requires.work c.args.hand.now.seat.me
    c.args.hand.now.ready.items c.args.hand.now.done.items c.args.item c.requires.hand

pub lift-requires-clause-slots : goal.lift-requires-clause-slots
lift-requires-clause-slots g c =
    slots_taken g.W.Course.plan g.W.Course.gives c.args.board.now.key c.args.work.now c.requires.work c.args.hand.now.seat.me c.args.hand.now.ready.items
    c.args.hand.now.done.items c.args.item c.requires.hand
    c.touches-touched.result.now c.touches-touched.ensures c.take.new.seat.me c.take.ensures.took

pub run-requires-clause-item : goal.run-requires-clause-item
run-requires-clause-item g c = within g.W.Course.plan g.W.Course.gives c.args.board.now.key c.args.work.now c.requires.work c.args.hand.now.seat.me
    c.args.hand.now.ready.items c.args.hand.now.done.items c.args.item c.requires.hand

pub run-requires-clause-rows : goal.run-requires-clause-rows
run-requires-clause-rows g c =
    c.in_ok-rows.ensures.rows
    ∙ rows_taken g.W.Course.plan g.W.Course.gives c.args.board.now.key c.args.work.now c.requires.work c.args.hand.now.seat.me c.args.hand.now.ready.items
    c.args.hand.now.done.items c.args.item c.requires.hand
    c.touches-touched.result.now c.touches-touched.ensures c.take.new.seat.me c.take.ensures.took

pub overflow_sub-items : goal.overflow_sub-items
overflow_sub-items g c =
    let lt = within g.W.Course.plan g.W.Course.gives c.args.board.now.key c.args.work.now c.requires.work c.args.hand.now.seat.me c.args.hand.now.ready.items
    c.args.hand.now.done.items c.args.item c.requires.hand in
    let e = c.items.ensures in
    omega arith

pub overflow_sub-items-2 : goal.overflow_sub-items-2
overflow_sub-items-2 g c =
    let lt = within g.W.Course.plan g.W.Course.gives c.args.board.now.key c.args.work.now c.requires.work c.args.hand.now.seat.me c.args.hand.now.ready.items
    c.args.hand.now.done.items c.args.item c.requires.hand in
    let e = c.items.ensures in
    omega arith

pub list-next-requires : goal.list-next-requires
list-next-requires g c =
    let lt = within g.W.Course.plan g.W.Course.gives c.args.board.now.key c.args.work.now c.requires.work c.args.hand.now.seat.me c.args.hand.now.ready.items
    c.args.hand.now.done.items c.args.item c.requires.hand in
    let e = c.items.ensures in
    let each = c.requires.nexts.each in
    omega arith

pub hand_on-requires-clause-seat : goal.hand_on-requires-clause-seat
hand_on-requires-clause-seat g c =
    seat_still g.W.Course.plan g.W.Course.gives c.args.board.now.key c.args.work.now c.requires.work c.args.hand.now.seat.me c.args.hand.now.ready.items
    c.args.hand.now.done.items c.args.item c.requires.hand
    c.touches-touched.result.now c.touches-touched.ensures c.take.new.seat.me c.take.ensures.took c.lift.new.seat.me c.in_ok-rows.ensures.view
    c.in_ok-rows.ensures.slots

pub hand_on-requires-clause-start : goal.hand_on-requires-clause-start
hand_on-requires-clause-start g c =
    start g.W.Course.plan g.W.Course.gives c.args.board.now.key c.args.work.now c.requires.work c.args.hand.now.seat.me c.args.hand.now.ready.items
    c.args.hand.now.done.items c.args.item c.requires.hand
    c.touches-touched.result.now c.touches-touched.ensures c.take.new.seat.me c.take.ensures.took c.lift.new.seat.me c.in_ok-rows.ensures.view
    c.in_ok-rows.ensures.slots

pub hand_on-requires-clause-item : goal.hand_on-requires-clause-item
hand_on-requires-clause-item g c =
    item_within g.W.Course.plan g.W.Course.gives c.args.board.now.key c.args.work.now c.requires.work c.args.hand.now.seat.me c.args.hand.now.ready.items
    c.args.hand.now.done.items c.args.item c.requires.hand
    c.touches-touched.result.now c.touches-touched.ensures c.take.new.seat.me c.take.ensures.took c.lift.new.seat.me c.in_ok-rows.ensures.view
    c.in_ok-rows.ensures.slots

pub hand_on-requires-clause-touched : goal.hand_on-requires-clause-touched
hand_on-requires-clause-touched g c =
    touched_key g.W.Course.plan g.W.Course.gives c.args.board.now.key c.args.work.now c.requires.work c.args.hand.now.seat.me c.args.hand.now.ready.items
    c.args.hand.now.done.items c.args.item c.requires.hand
    c.touches-touched.result.now c.touches-touched.ensures c.take.new.seat.me c.take.ensures.took c.lift.new.seat.me c.in_ok-rows.ensures.view
    c.in_ok-rows.ensures.slots

pub hand_on-requires-clause-nexts : goal.hand_on-requires-clause-nexts
hand_on-requires-clause-nexts g c =
    nexts_key g.W.Course.plan g.W.Course.gives c.args.board.now.key c.args.work.now c.requires.work c.args.hand.now.seat.me c.args.hand.now.ready.items
    c.args.hand.now.done.items c.args.item c.requires.hand
    c.touches-touched.result.now c.touches-touched.ensures c.take.new.seat.me c.take.ensures.took c.lift.new.seat.me c.in_ok-rows.ensures.view
    c.in_ok-rows.ensures.slots
    c.args.nexts.now c.items.result (c.items.result - 1 - c.args.item) c.list-next.result.now [] c.requires.nexts c.items.ensures refl c.list-next.ensures

pub hand_on-requires-clause-rows : goal.hand_on-requires-clause-rows
hand_on-requires-clause-rows g c =
    rows_key g.W.Course.plan g.W.Course.gives c.args.board.now.key c.args.work.now c.requires.work c.args.hand.now.seat.me c.args.hand.now.ready.items
    c.args.hand.now.done.items c.args.item c.requires.hand
    c.touches-touched.result.now c.touches-touched.ensures c.take.new.seat.me c.take.ensures.took c.lift.new.seat.me c.in_ok-rows.ensures.view
    c.in_ok-rows.ensures.slots
    c.run.new.rows.items c.in_ok-output.ensures.rows

pub returns-clause-hand : goal.returns-clause-hand
returns-clause-hand g c =
    hand_after g.W.Course.plan g.W.Course.gives c.args.board.now.key c.args.work.now c.requires.work c.args.hand.now.seat.me c.args.hand.now.ready.items
    c.args.hand.now.done.items c.args.item c.requires.hand
    c.touches-touched.result.now c.touches-touched.ensures c.take.new.seat.me c.take.ensures.took c.lift.new.seat.me c.in_ok-rows.ensures.view
    c.in_ok-rows.ensures.slots
    c.hand_on.new.seat.me c.hand_on.new.ready.items c.in_ok-hand_on.ensures.end _ _ refl c.in_ok-output.ensures.gives c.in_ok-push.ensures.items

pub returns-clause-apart : goal.returns-clause-apart
returns-clause-apart g c =
    apart_after g.W.Course.plan g.W.Course.gives c.args.board.now.key c.args.work.now c.requires.work c.args.hand.now.seat.me c.args.hand.now.ready.items
    c.args.hand.now.done.items c.args.item c.requires.hand
    c.touches-touched.result.now c.touches-touched.ensures c.take.new.seat.me c.take.ensures.took c.lift.new.seat.me c.in_ok-rows.ensures.view
    c.in_ok-rows.ensures.slots
    c.hand_on.new.seat.me c.hand_on.new.ready.items c.in_ok-hand_on.ensures.end c.requires.apart
