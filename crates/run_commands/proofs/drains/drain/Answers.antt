use Rattle.std.proofs.Common.{ℕ, ◌≡◌, ◌∙◌, ◌-◌, ◌==◌, ◌<◌, sym, ap, subst, refl, true, false, length, replicate, arith}
use Rattle.std.specs.Prelude.{Ok, Err}
use Rattle.disk_model.specs.Histories.{History}
use Rattle.script_course.specs.Served.{ServesCut}
use Rattle.script_course.specs.declared.stops.Stop.{Stop}
use Rattle.script_course.specs.declared.stops.Stop.TheVariants as stop
use Rattle.serving.specs.Drains.{no_calls, one_drained}
use Rattle.serving.specs.Lives.{plan_of, state_of}
use Rattle.serving.specs.Stored.{batch_of, stored_state}
use Rattle.store_openings.specs.Saved.{Saved}
use Rattle.run_commands.specs.Endings.{HoldsLive, drains_of}
use Rattle.run_commands.specs.Keeps.{HoldsState, LeavesLaid}
use Rattle.run_commands.specs.Onces.{Doing}
use Rattle.run_commands.specs.Passes.{Drain, held_behind, held_then}
use Rattle.run_commands.specs.Saves.{saved_behind, saved_more, saved_then}
use Rattle.run_commands.proofs.Drained.{like_on, next_cut, next_leads, quiet}
use Rattle.run_commands.proofs.DrainedOne.{some_waits}
use Rattle.run_commands.proofs.Draining.{cause_on, here_end, held_next, keeps_here, keeps_init, keeps_next, keeps_stop, laid_here, leads_init, left_init, left_next, left_stop, like_self, none_left, over_init, over_refused, saved_left, saved_next}
use Rattle.run_commands.proofs.Endings.{laid_as}
use Rattle.run_commands.proofs.Turns.{left_still}
use Rattle.run_commands.proofs.drains.drain.Goals as goal

pub loop-init : goal.loop-init
loop-init g c =
    let now = g.K.Sink.given c.args.out.now in
    record {
      sink = omega arith;
      disk = omega arith;
      store = λ e. e;
      untouched = λ e. refl;
      like = like_self c.args.start c.requires.runnable;
      logging = c.requires.logging;
      left = omega arith;
      leads = λ new result h. leads_init c.args.start c.args.line now new result h;
      holds = λ first saved d end h. (
        saved,
        h,
        over_init c.args.start c.args.line d end (saved_then c.args.start.checkpoint) saved,
        λ last l. left_init c.args.start c.args.line d end saved (g.D.Disk.history c.args.disk.now) last l,
      );
      held = λ d end. over_init c.args.start c.args.line d end held_then (stored_state c.args.start);
      keeps = λ first saved d end h last given k. keeps_init c.args.start c.args.line d end (g.D.Disk.history c.args.disk.now) last now given k;
    }

-- ---- nothing waits any more

pub returns-then-waiting-eq0-clause-serves : goal.returns-then-waiting-eq0-clause-serves
returns-then-waiting-eq0-clause-serves g c =
    let none : (length (state_of c.loop.live).waiting == 0) ≡ true = grind (arith, c.waiting.ensures, c.if-waiting-eq0.true) in
    let now = g.K.Sink.given c.loop.out in
    c.loop.invariant.leads now (Ok (state_of c.loop.live))
    (quiet (plan_of c.args.start) c.args.start.each c.args.line (length (state_of c.args.start).waiting - c.loop.counter) (state_of c.loop.live) now none)

pub returns-then-waiting-eq0-clause-keeps : goal.returns-then-waiting-eq0-clause-keeps
returns-then-waiting-eq0-clause-keeps g c = λ first saved d end h.
    let disk = g.D.Disk.history c.loop.disk in
    let now = g.K.Sink.given c.loop.out in
    let n = length (state_of c.args.start).waiting in
    let held = c.loop.invariant.holds first saved d end h in
    c.loop.invariant.keeps first saved d end h disk now
    (keeps_here c.args.start c.loop.live c.args.line n c.loop.counter d end c.loop.invariant.like first held.0 (replicate (n - c.loop.counter) Drain) disk now
    held.1)

pub returns-then-waiting-eq0-clause-holds : goal.returns-then-waiting-eq0-clause-holds
returns-then-waiting-eq0-clause-holds g c = λ first saved d end h.
    let none : (length (state_of c.loop.live).waiting == 0) ≡ true = grind (arith, c.waiting.ensures, c.if-waiting-eq0.true) in
    let held = c.loop.invariant.holds first saved d end h in
    subst (λ (x : Saved). HoldsLive first x (g.D.Disk.history c.loop.disk) c.loop.live)
    (sym (saved_left c.args.start c.loop.live c.args.line (length (state_of c.args.start).waiting) c.loop.counter d end c.loop.invariant.like held.0 none)
    ∙ held.2)
    held.1

pub returns-then-waiting-eq0-clause-held : goal.returns-then-waiting-eq0-clause-held
returns-then-waiting-eq0-clause-held g c = λ d end.
    let none : (length (state_of c.loop.live).waiting == 0) ≡ true = grind (arith, c.waiting.ensures, c.if-waiting-eq0.true) in
    sym (c.loop.invariant.held d end)
    ∙ none_left c.args.start c.loop.live c.args.line (length (state_of c.args.start).waiting) c.loop.counter d end c.loop.invariant.like none

pub returns-clause-keeps : goal.returns-clause-keeps
returns-clause-keeps g c = λ first saved d end h.
    let disk = g.D.Disk.history c.loop.disk in
    let now = g.K.Sink.given c.loop.out in
    let n = length (state_of c.args.start).waiting in
    let held = c.loop.invariant.holds first saved d end h in
    c.loop.invariant.keeps first saved d end h disk now
    (keeps_here c.args.start c.loop.live c.args.line n c.loop.counter d end c.loop.invariant.like first held.0 (replicate (n - c.loop.counter) Drain) disk now
    held.1)

pub returns-clause-holds : goal.returns-clause-holds
returns-clause-holds g c = λ first saved d end h.
    let none : (length (state_of c.loop.live).waiting == 0) ≡ true = grind (arith, c.loop.invariant.left, c.loop-test.false, c.waiting-end.ensures) in
    let held = c.loop.invariant.holds first saved d end h in
    subst (λ (x : Saved). HoldsLive first x (g.D.Disk.history c.loop.disk) c.loop.live)
    (sym (saved_left c.args.start c.loop.live c.args.line (length (state_of c.args.start).waiting) c.loop.counter d end c.loop.invariant.like held.0 none)
    ∙ held.2)
    held.1

pub returns-clause-held : goal.returns-clause-held
returns-clause-held g c = λ d end.
    let none : (length (state_of c.loop.live).waiting == 0) ≡ true = grind (arith, c.loop.invariant.left, c.loop-test.false, c.waiting-end.ensures) in
    sym (c.loop.invariant.held d end)
    ∙ none_left c.args.start c.loop.live c.args.line (length (state_of c.args.start).waiting) c.loop.counter d end c.loop.invariant.like none

pub returns-then-waiting-eq0-clause-left : goal.returns-then-waiting-eq0-clause-left
returns-then-waiting-eq0-clause-left g c = λ first saved d end h.
    let held = c.loop.invariant.holds first saved d end h in
    let live = c.loop.live in
    let k = c.args.start.checkpoint in
    held.3 (g.D.Disk.history c.loop.disk)
    (left_still k first (replicate (length (state_of c.args.start).waiting - c.loop.counter) Drain) (record d { state = state_of live }) held.0
    (g.D.Disk.history c.loop.disk) (plan_of live) (stored_state live) live.store
    (subst (λ (m : ℕ). HoldsState first held.0 m (g.D.Disk.history c.loop.disk) (plan_of live) (stored_state live) live.store)
    c.loop.invariant.like.checkpoint held.1))

pub returns-clause-left : goal.returns-clause-left
returns-clause-left g c = λ first saved d end h.
    let held = c.loop.invariant.holds first saved d end h in
    let live = c.loop.live in
    let k = c.args.start.checkpoint in
    held.3 (g.D.Disk.history c.loop.disk)
    (left_still k first (replicate (length (state_of c.args.start).waiting - c.loop.counter) Drain) (record d { state = state_of live }) held.0
    (g.D.Disk.history c.loop.disk) (plan_of live) (stored_state live) live.store
    (subst (λ (m : ℕ). HoldsState first held.0 m (g.D.Disk.history c.loop.disk) (plan_of live) (stored_state live) live.store)
    c.loop.invariant.like.checkpoint held.1))

-- ---- a batch was cut off or refused

pub returns-in-Err-clause-left : goal.returns-in-Err-clause-left
returns-in-Err-clause-left g c = λ first saved d end h.
    let some : (length (state_of c.loop.live).waiting == 0) ≡ false =
    some_waits (length (state_of c.loop.live).waiting) (omega (arith, c.waiting.ensures, c.if-waiting-eq0.false)) in
    let within : c.loop.counter < length (state_of c.args.start).waiting = omega (arith, c.loop-test.true, c.waiting-end.ensures) in
    let n = length (state_of c.args.start).waiting in
    let held = c.loop.invariant.holds first saved d end h in
    held.3 (g.D.Disk.history c.drain_one.new.disk)
    (left_stop c.args.start c.loop.live c.args.line n c.loop.counter d end c.loop.invariant.like within some held.0 (g.D.Disk.history c.loop.disk)
    (g.D.Disk.history c.drain_one.new.disk)
    (c.drain_one.ensures.left first held.0 (record d { state = state_of c.loop.live })
    (here_end c.args.start c.loop.live c.args.line n c.loop.counter d end c.loop.invariant.like) held.1))

pub returns-in-Err-clause-serves : goal.returns-in-Err-clause-serves
returns-in-Err-clause-serves g c =
    let some : (length (state_of c.loop.live).waiting == 0) ≡ false =
    some_waits (length (state_of c.loop.live).waiting) (omega (arith, c.waiting.ensures, c.if-waiting-eq0.false)) in
    let within : c.loop.counter < length (state_of c.args.start).waiting = omega (arith, c.loop-test.true, c.waiting-end.ensures) in
    let new = g.K.Sink.given c.drain_one.new.out in
    c.loop.invariant.leads new (Err c.in-Err.stop)
    (next_cut c.args.start c.loop.live c.args.line (length (state_of c.args.start).waiting) c.loop.counter c.loop.invariant.like within some
    (g.K.Sink.given c.loop.out) new c.in-Err.stop c.in-Err.ensures.serves)

pub returns-in-Err-clause-keeps : goal.returns-in-Err-clause-keeps
returns-in-Err-clause-keeps g c = λ first saved d end h.
    let some : (length (state_of c.loop.live).waiting == 0) ≡ false =
    some_waits (length (state_of c.loop.live).waiting) (omega (arith, c.waiting.ensures, c.if-waiting-eq0.false)) in
    let within : c.loop.counter < length (state_of c.args.start).waiting = omega (arith, c.loop-test.true, c.waiting-end.ensures) in
    let n = length (state_of c.args.start).waiting in
    let now = g.K.Sink.given c.loop.out in
    let new = g.K.Sink.given c.drain_one.new.out in
    let here : Doing = record d { state = state_of c.loop.live } in
    let held = c.loop.invariant.holds first saved d end h in
    let one = c.drain_one.ensures.keeps held.0.c held.0.later here (here_end c.args.start c.loop.live c.args.line n c.loop.counter d end c.loop.invariant.like)
    held.1.stands.holds in
    c.loop.invariant.keeps first saved d end h (g.D.Disk.history c.drain_one.new.disk) new
    (keeps_stop c.args.start c.loop.live c.args.line n c.loop.counter d end c.loop.invariant.like within some (g.D.Disk.history c.loop.disk)
    (g.D.Disk.history c.drain_one.new.disk) now new one)

pub returns-in-Err-clause-refused : goal.returns-in-Err-clause-refused
returns-in-Err-clause-refused g c = λ first saved d end h e.
    let some : (length (state_of c.loop.live).waiting == 0) ≡ false =
    some_waits (length (state_of c.loop.live).waiting) (omega (arith, c.waiting.ensures, c.if-waiting-eq0.false)) in
    let within : c.loop.counter < length (state_of c.args.start).waiting = omega (arith, c.loop-test.true, c.waiting-end.ensures) in
    let n = length (state_of c.args.start).waiting in
    let live = c.loop.live in
    let now = g.K.Sink.given c.loop.out in
    let new = g.K.Sink.given c.drain_one.new.out in
    let same : c.in-Err.stop ≡ stop.Refused = cc in
    let stopped = subst (λ (s : Stop). ServesCut (one_drained (plan_of live) live.each c.args.line (state_of live)) now new s) same c.in-Err.ensures.serves in
    let inv = c.loop.invariant.holds first saved d end h in
    let k = c.args.start.checkpoint in
    let all = drains_of (state_of c.args.start) in
    let held : stored_state live ≡ held_behind all d (stored_state c.args.start) =
    sym (over_refused c.args.start live c.args.line n c.loop.counter d end c.loop.invariant.like within some held_then (stored_state live) now new stopped)
    ∙ c.loop.invariant.held d end in
    let here : inv.0 ≡ saved_behind k all d saved =
    sym (over_refused c.args.start live c.args.line n c.loop.counter d end c.loop.invariant.like within some (saved_then k) inv.0 now new stopped) ∙ inv.2 in
    let disk : g.D.Disk.history c.loop.disk ≡ g.D.Disk.history c.drain_one.new.disk = ap g.D.Disk.history (sym (c.in-Err.ensures.refused e)) in
    subst (λ (q : History). LeavesLaid first (saved_behind k all d saved) k q (plan_of c.args.start) (held_behind all d (stored_state c.args.start))) disk
    (laid_as first k (g.D.Disk.history c.loop.disk) (plan_of c.args.start) inv.0 (saved_behind k all d saved) (stored_state live)
    (held_behind all d (stored_state c.args.start)) here held
    (laid_here first inv.0 c.args.start live (g.D.Disk.history c.loop.disk) c.loop.invariant.like inv.1))

pub returns-in-Err-clause-cause : goal.returns-in-Err-clause-cause
returns-in-Err-clause-cause g c =
    cause_on c.args.start.store c.loop.live.store c.in-Err.stop (g.K.Sink.faults c.args.out.now) (g.K.Sink.faults c.loop.out)
    (g.K.Sink.faults c.drain_one.new.out)
    (g.D.Disk.history c.args.disk.now).faults (g.D.Disk.history c.loop.disk).faults (g.D.Disk.history c.drain_one.new.disk).faults c.loop.invariant.store
    c.loop.invariant.sink c.loop.invariant.disk
    c.in-Err.ensures.cause

-- ---- a batch more

pub loop-preserved : goal.loop-preserved
loop-preserved g c =
    let some : (length (state_of c.loop.live).waiting == 0) ≡ false =
    some_waits (length (state_of c.loop.live).waiting) (omega (arith, c.waiting.ensures, c.if-waiting-eq0.false)) in
    let within : c.loop.counter < length (state_of c.args.start).waiting = omega (arith, c.loop-test.true, c.waiting-end.ensures) in
    let n = length (state_of c.args.start).waiting in
    let live = c.loop.live in
    let now = g.K.Sink.given c.loop.out in
    let new = g.K.Sink.given c.drain_one.new.out in
    record {
      sink = omega (arith, c.drain_one.ensures.sink, c.loop.invariant.sink);
      disk = omega (arith, c.in-Ok.ensures.disk, c.loop.invariant.disk);
      store = λ e. c.in-Ok.ensures.store (c.loop.invariant.store e);
      untouched = λ e. c.drain_one.ensures.untouched (c.loop.invariant.store e) ∙ c.loop.invariant.untouched e;
      like = like_on c.args.start live c.in-Ok.next c.loop.invariant.like c.in-Ok.ensures.like;
      logging = c.in-Ok.ensures.logging;
      left = omega (arith, c.in-Ok.ensures.fewer, c.loop.invariant.left);
      leads = λ q result h. c.loop.invariant.leads q result
          (next_leads c.args.start live c.args.line n c.loop.counter c.loop.invariant.like within some (state_of c.in-Ok.next) now new c.in-Ok.ensures.serves q
          result h);
      holds = λ first saved d end h.
          let inv = c.loop.invariant.holds first saved d end h in (
            saved_more live.checkpoint inv.0 (batch_of (no_calls (state_of live))) (state_of c.in-Ok.next),
            c.in-Ok.ensures.holds first inv.0 inv.1,
            saved_next c.args.start live c.args.line n c.loop.counter d end c.loop.invariant.like within some c.in-Ok.next now new c.in-Ok.ensures.counted
                c.in-Ok.ensures.told c.in-Ok.ensures.serves inv.0
                ∙ inv.2,
            λ last l. inv.3 last
                (left_next c.args.start live c.args.line n c.loop.counter d end c.loop.invariant.like within some c.in-Ok.next now new c.in-Ok.ensures.counted
                c.in-Ok.ensures.told c.in-Ok.ensures.serves inv.0 (g.D.Disk.history c.loop.disk) (g.D.Disk.history c.drain_one.new.disk) last
                (c.drain_one.ensures.left first inv.0 (record d { state = state_of live })
                (here_end c.args.start live c.args.line n c.loop.counter d end c.loop.invariant.like) inv.1) l),
          );
      held = λ d end.
          held_next c.args.start live c.args.line n c.loop.counter d end c.loop.invariant.like within some c.in-Ok.next now new c.in-Ok.ensures.counted
          c.in-Ok.ensures.told c.in-Ok.ensures.serves
          ∙ c.loop.invariant.held d end;
      keeps = λ first saved d end h last given rest.
          let here : Doing = record d { state = state_of live } in
          let held = c.loop.invariant.holds first saved d end h in
          let one = c.drain_one.ensures.keeps held.0.c held.0.later here (here_end c.args.start live c.args.line n c.loop.counter d end c.loop.invariant.like)
          held.1.stands.holds in
          c.loop.invariant.keeps first saved d end h last given
          (keeps_next c.args.start live c.args.line n c.loop.counter d end c.loop.invariant.like within some c.in-Ok.next now new c.in-Ok.ensures.counted
          c.in-Ok.ensures.told c.in-Ok.ensures.serves
          (g.D.Disk.history c.loop.disk) (g.D.Disk.history c.drain_one.new.disk) last given one rest);
    }
