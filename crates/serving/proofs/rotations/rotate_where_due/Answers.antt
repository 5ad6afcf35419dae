use Rattle.std.proofs.Common.{◌≡◌, ◌∙◌, true, arith}
use Rattle.serving.specs.Lives.{plan_of, state_of}
use Rattle.serving.specs.Stored.{due_by}
use Rattle.serving.proofs.Served.{due_here, still_leaves, taken_turns, turned_holds, turned_images, turned_is}
use Rattle.serving.proofs.rotations.rotate_where_due.Goals as goal

pub returns-then-not-rotation_due-clause-images : goal.returns-then-not-rotation_due-clause-images
returns-then-not-rotation_due-clause-images g c k later h =
    still_leaves (due_by c.args.live.now.checkpoint (state_of c.args.live.now).batches c.args.live.now.store) (g.D.Disk.history c.args.disk.now)
    (plan_of c.args.live.now) (state_of c.args.live.now) c.args.live.now.store k later h

pub returns-clause-holds : goal.returns-clause-holds
returns-clause-holds g c =
    let on : c.rotation_due.result ≡ true = grind (arith, c.if-not-rotation_due.false) in
    let due = due_here c.args.live.now c.first-engine.result.now c.first-engine.ensures.first c.in-Some.store c.in-Some.is c.rotation_due.result
    c.batches.result c.log_len.result
    c.rotation_due.ensures c.batches.ensures c.log_len.ensures in
    turned_holds c.args.live.now c.first-engine.result.now c.first-engine.ensures.first c.in-Some.store c.in-Some.is c.rotate.result
    (g.D.Disk.history c.args.disk.now) (g.D.Disk.history c.rotate.new.disk) c.rotate.new.store
    (due_by c.args.live.now.checkpoint (state_of c.args.live.now).batches c.args.live.now.store) (due ∙ on) c.rotate.ensures.holds

pub returns-clause-turned : goal.returns-clause-turned
returns-clause-turned g c =
    let on : c.rotation_due.result ≡ true = grind (arith, c.if-not-rotation_due.false) in
    let due = due_here c.args.live.now c.first-engine.result.now c.first-engine.ensures.first c.in-Some.store c.in-Some.is c.rotation_due.result
    c.batches.result c.log_len.result
    c.rotation_due.ensures c.batches.ensures c.log_len.ensures in
    turned_is c.args.live.now c.first-engine.result.now c.first-engine.ensures.first c.in-Some.store c.in-Some.is c.rotate.result c.rotate.new.store
    (due_by c.args.live.now.checkpoint (state_of c.args.live.now).batches c.args.live.now.store) (due ∙ on) c.rotate.ensures.turned

pub returns-clause-images : goal.returns-clause-images
returns-clause-images g c k later h =
    let on : c.rotation_due.result ≡ true = grind (arith, c.if-not-rotation_due.false) in
    let due = due_here c.args.live.now c.first-engine.result.now c.first-engine.ensures.first c.in-Some.store c.in-Some.is c.rotation_due.result
    c.batches.result c.log_len.result
    c.rotation_due.ensures c.batches.ensures c.log_len.ensures in
    turned_images c.args.live.now c.first-engine.result.now c.first-engine.ensures.first c.in-Some.store c.in-Some.is
    (due_by c.args.live.now.checkpoint (state_of c.args.live.now).batches c.args.live.now.store) (due ∙ on)
    (g.D.Disk.history c.args.disk.now) (g.D.Disk.history c.rotate.new.disk) k later (c.rotate.ensures.images k later) h

pub rotate-requires-clause-may : goal.rotate-requires-clause-may
rotate-requires-clause-may g c =
    taken_turns c.args.live.now c.first-engine.result.now c.first-engine.ensures.first c.in-Some.store c.in-Some.is
    (g.D.Disk.history c.args.disk.now) c.requires.taken
