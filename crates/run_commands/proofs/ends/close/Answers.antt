use Rattle.std.proofs.Common.{◌≡◌, inl, inr, sym, subst, ℕ, true, false, arith}
use Rattle.std.specs.Prelude.{IsSomeAnd}
use Rattle.aria_base.specs.Faults.{Rose}
use Rattle.batch_core.specs.Steps.{State}
use Rattle.script_course.specs.declared.stops.Stop.TheVariants as stop
use Rattle.run_commands.specs.Bases.{checkpoint_in, state_in, store_in}
use Rattle.run_commands.specs.Endings.{closing_turns, drains_of, held_in}
use Rattle.run_commands.specs.Keeps.{LeavesLaid}
use Rattle.run_commands.specs.Passes.{held_behind}
use Rattle.run_commands.specs.Saves.{saved_behind}
use Rattle.run_commands.proofs.Closing.{drained_keeps, drained_laid, drained_left, drained_stop, quiet_keeps, quiet_laid, refused_as}
use Rattle.run_commands.proofs.Ending.{drained_by, drained_cut}
use Rattle.run_commands.proofs.Endings.{holds_laid, holds_leave}
use Rattle.run_commands.proofs.Stepped.{causes_more}
use Rattle.run_commands.proofs.Turns.{left_still}
use Rattle.run_commands.proofs.ends.close.Goals as goal
use Rattle.script_places.specs.Places.{plan_in}

-- ---- where nothing is drained

pub returns-then-not-drains-clause-keeps : goal.returns-then-not-drains-clause-keeps
returns-then-not-drains-clause-keeps g c = λ first saved d end h.
    let off : c.args.drains ≡ false = grind (arith, c.if-not-drains.true) in
    let plan = plan_in c.args.head.now in
    let b = c.args.work.base in
    let disk = g.D.Disk.history c.args.disk.now in
    quiet_keeps plan c.args.work.each c.args.line (state_in b) d end (held_in b) c.args.drains off disk (g.K.Sink.given c.args.out.now)
    (g.K.Sink.given c.list.new.out) c.list.result c.list.ensures.finishes
    (holds_leave first saved (checkpoint_in b) disk plan (held_in b) (store_in b) h)

pub returns-then-not-drains-clause-laid : goal.returns-then-not-drains-clause-laid
returns-then-not-drains-clause-laid g c = λ first saved d end h which.
    let off : c.args.drains ≡ false = grind (arith, c.if-not-drains.true) in
    let plan = plan_in c.args.head.now in
    let b = c.args.work.base in
    let disk = g.D.Disk.history c.args.disk.now in
    quiet_laid plan c.args.work.each c.args.line (state_in b) d end (held_in b) c.args.drains off first saved (checkpoint_in b) disk
    (holds_laid first saved (checkpoint_in b) disk plan (held_in b) (store_in b) h)

pub returns-then-not-drains-clause-cause : goal.returns-then-not-drains-clause-cause
returns-then-not-drains-clause-cause g c =
    let disk = g.D.Disk.history c.args.disk.now in
    causes_more (Rose (g.K.Sink.faults c.args.out.now) (g.K.Sink.faults c.list.new.out))
    (IsSomeAnd (store_in c.args.work.base) (λ _. Rose disk.faults disk.faults)) c.list.result c.list.ensures.cause

-- ---- where all was drained

pub returns-in-Ok-clause-finishes : goal.returns-in-Ok-clause-finishes
returns-in-Ok-clause-finishes g c =
    let on : c.args.drains ≡ true = grind (arith, c.if-not-drains.false) in
    drained_by c.args.drains (plan_in c.args.head.now) c.args.work.each c.args.line (state_in c.args.work.base) on (state_in c.in-Ok.base)
    (g.K.Sink.given c.args.out.now) (g.K.Sink.given c.drained.new.out)
    (g.K.Sink.given c.list-in-Ok.new.out) c.list-in-Ok.result c.in-Ok.ensures.serves c.list-in-Ok.ensures.read c.list-in-Ok.ensures.finishes

pub returns-in-Ok-clause-keeps : goal.returns-in-Ok-clause-keeps
returns-in-Ok-clause-keeps g c = λ first saved d end h.
    let on : c.args.drains ≡ true = grind (arith, c.if-not-drains.false) in
    let plan = plan_in c.args.head.now in
    let b = c.args.work.base in
    let next = c.in-Ok.base in
    let new = g.D.Disk.history c.drained.new.disk in
    drained_keeps plan c.args.work.each c.args.line (state_in b) d end (held_in b) (held_in next) c.args.drains on (state_in next)
    (g.D.Disk.history c.args.disk.now) new (g.K.Sink.given c.args.out.now)
    (g.K.Sink.given c.drained.new.out) (g.K.Sink.given c.list-in-Ok.new.out) c.list-in-Ok.result c.in-Ok.ensures.serves c.list-in-Ok.ensures.finishes
    (c.in-Ok.ensures.held d end)
    (holds_leave first (saved_behind (checkpoint_in b) (drains_of (state_in b)) d saved) (checkpoint_in next) new plan (held_in next) (store_in next)
    (c.in-Ok.ensures.holds first saved d end h)) (c.drained.ensures.keeps first saved d end h)

pub returns-in-Ok-clause-laid : goal.returns-in-Ok-clause-laid
returns-in-Ok-clause-laid g c = λ first saved d end h which.
    let on : c.args.drains ≡ true = grind (arith, c.if-not-drains.false) in
    let plan = plan_in c.args.head.now in
    let b = c.args.work.base in
    let next = c.in-Ok.base in
    let new = g.D.Disk.history c.drained.new.disk in
    let after = saved_behind (checkpoint_in b) (drains_of (state_in b)) d saved in
    drained_laid plan c.args.work.each c.args.line (state_in b) d end (held_in b) c.args.drains on first saved (checkpoint_in b) new
    (subst (λ (n : ℕ). LeavesLaid first after n new plan (held_behind (drains_of (state_in b)) d (held_in b))) c.in-Ok.ensures.checkpoint
    (subst (λ (s : State). LeavesLaid first after (checkpoint_in next) new plan s) (sym (c.in-Ok.ensures.held d end))
    (holds_laid first after (checkpoint_in next) new plan (held_in next) (store_in next) (c.in-Ok.ensures.holds first saved d end h))))

-- ---- where that was cut off or refused

pub returns-clause-finishes : goal.returns-clause-finishes
returns-clause-finishes g c =
    let on : c.args.drains ≡ true = grind (arith, c.if-not-drains.false) in
    drained_cut c.args.drains (plan_in c.args.head.now) c.args.work.each c.args.line (state_in c.args.work.base) on (g.K.Sink.given c.args.out.now)
    (g.K.Sink.given c.drained.new.out) c.in-Err.stop c.in-Err.ensures.serves

pub returns-clause-keeps : goal.returns-clause-keeps
returns-clause-keeps g c = λ first saved d end h.
    let on : c.args.drains ≡ true = grind (arith, c.if-not-drains.false) in
    let b = c.args.work.base in
    drained_stop (plan_in c.args.head.now) c.args.work.each c.args.line (state_in b) d end (held_in b) c.args.drains on (g.D.Disk.history c.args.disk.now)
    (g.D.Disk.history c.drained.new.disk)
    (g.K.Sink.given c.args.out.now) (g.K.Sink.given c.drained.new.out) (c.drained.ensures.keeps first saved d end h)

pub returns-clause-laid : goal.returns-clause-laid
returns-clause-laid g c = λ first saved d end h which.
    let on : c.args.drains ≡ true = grind (arith, c.if-not-drains.false) in
    let b = c.args.work.base in
    elim which [
      | inl e ↦ absurd cc
      | inr e ↦ drained_laid (plan_in c.args.head.now) c.args.work.each c.args.line (state_in b) d end (held_in b) c.args.drains on first saved
          (checkpoint_in b)
          (g.D.Disk.history c.drained.new.disk)
          (c.in-Err.ensures.refused first saved d end h (refused_as c.in-Err.stop stop.Refused e))
    ]

-- ---- what a stop leaves

pub returns-then-not-drains-clause-left : goal.returns-then-not-drains-clause-left
returns-then-not-drains-clause-left g c = λ first saved d end h.
    let b = c.args.work.base in
    left_still (checkpoint_in b) first (closing_turns c.args.drains (state_in b)) d saved (g.D.Disk.history c.args.disk.now) (plan_in c.args.head.now)
    (held_in b) (store_in b) h

pub returns-in-Ok-clause-left : goal.returns-in-Ok-clause-left
returns-in-Ok-clause-left g c = λ first saved d end h.
    let on : c.args.drains ≡ true = grind (arith, c.if-not-drains.false) in
    let b = c.args.work.base in
    drained_left (plan_in c.args.head.now) c.args.work.each c.args.line (state_in b) d end (held_in b) c.args.drains on saved (checkpoint_in b)
    (g.D.Disk.history c.args.disk.now) (g.D.Disk.history c.drained.new.disk) (c.drained.ensures.left first saved d end h)

pub returns-clause-left : goal.returns-clause-left
returns-clause-left g c = λ first saved d end h.
    let on : c.args.drains ≡ true = grind (arith, c.if-not-drains.false) in
    let b = c.args.work.base in
    drained_left (plan_in c.args.head.now) c.args.work.each c.args.line (state_in b) d end (held_in b) c.args.drains on saved (checkpoint_in b)
    (g.D.Disk.history c.args.disk.now) (g.D.Disk.history c.drained.new.disk) (c.drained.ensures.left first saved d end h)
