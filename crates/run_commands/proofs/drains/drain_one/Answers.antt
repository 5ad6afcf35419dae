use Rattle.std.proofs.Common.{◌≡◌, ◌<◌, ◌≤◌, ◌==◌, sym, subst, false, [], ◌∷◌, length, arith}
use Rattle.std.specs.Prelude.{IsSomeAnd}
use Rattle.aria_base.specs.Faults.{Rose}
use Rattle.answer_text.specs.Refusals.{refusal_text}
use Rattle.aria_base.specs.declared.limits.TheConstants.{GREATEST_NUMBER}
use Rattle.batch_core.specs.Steps.{State}
use Rattle.script_course.specs.Courses.{Course}
use Rattle.script_course.specs.Served.{Serves}
use Rattle.script_course.specs.declared.stops.Stop.TheVariants as stop
use Rattle.script_text.specs.declared.refusals.RefusalKind.TheVariants.{Numbers}
use Rattle.serving.specs.Drains.{state_result}
use Rattle.serving.specs.Lives.{plan_of, state_of}
use Rattle.aria_store.specs.Stands.{added}
use Rattle.serving.specs.Stored.{IsLogging, next_due, stored_state}
use Rattle.serving.specs.declared.lives.Live.{Live}
use Rattle.run_commands.proofs.Drained.{fewer_next, one_refused, stopped_on}
use Rattle.run_commands.proofs.DrainedOne.{as_after, as_either, counted_next, drain_left, holds_next, keeps_cut, keeps_told, like_next, next_here, none_next, not_refused, one_cut, one_told, some_waits, stored_next, told_here}
use Rattle.run_commands.proofs.Endings.{drain_refused}
use Rattle.run_commands.proofs.Ran.{held_leaves_all, no_lines}
use Rattle.run_commands.proofs.Stepped.{causes_more}
use Rattle.run_commands.proofs.Told.{cut_cause}
use Rattle.run_commands.proofs.Turns.{left_still}
use Rattle.run_commands.specs.Passes.{Drain}
use Rattle.run_commands.proofs.drains.drain_one.Goals as goal

pub serve_batch-next-requires-clause-logs : goal.serve_batch-next-requires-clause-logs
serve_batch-next-requires-clause-logs g c κs within =
    record { logging = c.requires.logging; lines = no_lines (plan_of c.args.live) c.new.result.items c.args.live.store c.new.ensures.items }

-- ---- the numbers are used up

pub returns-then-batches-ge-GREATEST_NUMBER-clause-serves : goal.returns-then-batches-ge-GREATEST_NUMBER-clause-serves
returns-then-batches-ge-GREATEST_NUMBER-clause-serves g c =
    let past : GREATEST_NUMBER ≤ (state_of c.args.live).batches = omega (arith, c.batches.ensures, c.if-batches-ge-GREATEST_NUMBER.true) in
    let old = g.K.Sink.given c.args.out.now in
    let new = g.K.Sink.given c.refuse.new.out in
    subst (λ (q : Course State). Serves q old new (state_result c.refuse.result))
    (sym (one_refused (plan_of c.args.live) c.args.live.each c.args.line (state_of c.args.live) past))
    (stopped_on (refusal_text (record { line = c.args.line; kind = Numbers })) old new c.refuse.result c.refuse.ensures.serves)

pub returns-then-batches-ge-GREATEST_NUMBER-clause-keeps : goal.returns-then-batches-ge-GREATEST_NUMBER-clause-keeps
returns-then-batches-ge-GREATEST_NUMBER-clause-keeps g c = λ ck later d end h.
    let past : GREATEST_NUMBER ≤ (state_of c.args.live).batches = omega (arith, c.batches.ensures, c.if-batches-ge-GREATEST_NUMBER.true) in
    let some : (length (state_of c.args.live).waiting == 0) ≡ false = some_waits (length (state_of c.args.live).waiting) c.requires.some in
    let disk = g.D.Disk.history c.args.disk.now in
    let live = c.args.live in
    drain_refused (plan_of live) live.each c.args.line (state_of live) d end some (stored_state live)
    (refusal_text (record { line = c.args.line; kind = Numbers })) disk (g.K.Sink.given c.args.out.now)
    (g.K.Sink.given c.refuse.new.out) (one_refused (plan_of live) live.each c.args.line (state_of live) past) c.refuse.ensures.front
    (held_leaves_all disk (plan_of live) (stored_state live) live.store ck later h)

pub returns-then-batches-ge-GREATEST_NUMBER-clause-cause : goal.returns-then-batches-ge-GREATEST_NUMBER-clause-cause
returns-then-batches-ge-GREATEST_NUMBER-clause-cause g c =
    let disk = g.D.Disk.history c.args.disk.now in
    causes_more (Rose (g.K.Sink.faults c.args.out.now) (g.K.Sink.faults c.refuse.new.out)) (IsSomeAnd c.args.live.store (λ _. Rose disk.faults disk.faults))
    c.refuse.result c.refuse.ensures.cause

-- ---- the batch was told

pub returns-in-Some-clause-serves : goal.returns-in-Some-clause-serves
returns-in-Some-clause-serves g c =
    let below : (state_of c.args.live).batches < GREATEST_NUMBER = omega (arith, c.batches.ensures, c.if-batches-ge-GREATEST_NUMBER.false) in
    one_told c.args.live c.new.result.items c.new.ensures.items c.args.line below (g.K.Sink.given c.args.out.now)
    (g.K.Sink.given c.serve_batch-next.new.out) c.serve_batch-next.result
    c.serve_batch-next.ensures.tells c.in-Some.next c.in-Some.is

pub returns-in-Some-clause-like : goal.returns-in-Some-clause-like
returns-in-Some-clause-like g c =
    let below : (state_of c.args.live).batches < GREATEST_NUMBER = omega (arith, c.batches.ensures, c.if-batches-ge-GREATEST_NUMBER.false) in
    like_next c.args.live c.new.result.items c.new.ensures.items c.args.line below (g.K.Sink.given c.args.out.now)
    (g.K.Sink.given c.serve_batch-next.new.out) c.serve_batch-next.result
    c.serve_batch-next.ensures.tells c.in-Some.next c.in-Some.is

pub returns-in-Some-clause-fewer : goal.returns-in-Some-clause-fewer
returns-in-Some-clause-fewer g c =
    let below : (state_of c.args.live).batches < GREATEST_NUMBER = omega (arith, c.batches.ensures, c.if-batches-ge-GREATEST_NUMBER.false) in
    fewer_next c.args.live c.new.result.items c.new.ensures.items c.in-Some.next
    (next_here c.args.live c.new.result.items c.new.ensures.items c.args.line below (g.K.Sink.given c.args.out.now)
    (g.K.Sink.given c.serve_batch-next.new.out) c.serve_batch-next.result
    c.serve_batch-next.ensures.tells c.in-Some.next c.in-Some.is) c.requires.some

pub returns-in-Some-clause-counted : goal.returns-in-Some-clause-counted
returns-in-Some-clause-counted g c =
    let below : (state_of c.args.live).batches < GREATEST_NUMBER = omega (arith, c.batches.ensures, c.if-batches-ge-GREATEST_NUMBER.false) in
    counted_next c.args.live c.new.result.items c.new.ensures.items c.args.line below (g.K.Sink.given c.args.out.now)
    (g.K.Sink.given c.serve_batch-next.new.out) c.serve_batch-next.result
    c.serve_batch-next.ensures.tells c.in-Some.next c.in-Some.is

pub returns-in-Some-clause-told : goal.returns-in-Some-clause-told
returns-in-Some-clause-told g c =
    let below : (state_of c.args.live).batches < GREATEST_NUMBER = omega (arith, c.batches.ensures, c.if-batches-ge-GREATEST_NUMBER.false) in
    stored_next c.args.live c.new.result.items c.new.ensures.items c.args.line below (g.K.Sink.given c.args.out.now)
    (g.K.Sink.given c.serve_batch-next.new.out) c.serve_batch-next.result
    c.serve_batch-next.ensures.tells c.in-Some.next c.in-Some.is c.serve_batch-next.ensures.store

pub returns-in-Some-clause-logging : goal.returns-in-Some-clause-logging
returns-in-Some-clause-logging g c =
    let below : (state_of c.args.live).batches < GREATEST_NUMBER = omega (arith, c.batches.ensures, c.if-batches-ge-GREATEST_NUMBER.false) in
    told_here c.args.live c.new.result.items c.new.ensures.items c.args.line below (g.K.Sink.given c.args.out.now)
    (g.K.Sink.given c.serve_batch-next.new.out) c.serve_batch-next.result
    c.serve_batch-next.ensures.tells c.in-Some.next c.in-Some.is (IsLogging (g.D.Disk.history c.serve_batch-next.new.disk)) c.serve_batch-next.ensures.logging

pub returns-in-Some-clause-keeps : goal.returns-in-Some-clause-keeps
returns-in-Some-clause-keeps g c = λ ck later d end h.
    let below : (state_of c.args.live).batches < GREATEST_NUMBER = omega (arith, c.batches.ensures, c.if-batches-ge-GREATEST_NUMBER.false) in
    let some : (length (state_of c.args.live).waiting == 0) ≡ false = some_waits (length (state_of c.args.live).waiting) c.requires.some in
    keeps_told c.args.live c.new.result.items c.new.ensures.items c.args.line below (g.K.Sink.given c.args.out.now)
    (g.K.Sink.given c.serve_batch-next.new.out) c.serve_batch-next.result
    c.serve_batch-next.ensures.tells some d end (g.D.Disk.history c.args.disk.now) (g.D.Disk.history c.serve_batch-next.new.disk)
    (as_either c.args.live c.new.result.items c.new.ensures.items c.args.line below (g.K.Sink.given c.args.out.now)
    (g.K.Sink.given c.serve_batch-next.new.out) c.serve_batch-next.result
    c.serve_batch-next.ensures.tells (next_due c.args.live c.new.result.items) ck later
    (added later c.args.live.config.rule c.args.live.config.fallback c.new.result.items) (g.D.Disk.history c.args.disk.now)
    (g.D.Disk.history c.serve_batch-next.new.disk)
    (c.serve_batch-next.ensures.images ck later h))
    (as_after c.args.live c.new.result.items c.new.ensures.items c.args.line below (g.K.Sink.given c.args.out.now)
    (g.K.Sink.given c.serve_batch-next.new.out) c.serve_batch-next.result
    c.serve_batch-next.ensures.tells (next_due c.args.live c.new.result.items) ck later
    (added later c.args.live.config.rule c.args.live.config.fallback c.new.result.items) _ (g.D.Disk.history c.serve_batch-next.new.disk)
    (c.serve_batch-next.ensures.answered ck later h)) c.in-Some.next c.in-Some.is

pub returns-in-Some-clause-holds : goal.returns-in-Some-clause-holds
returns-in-Some-clause-holds g c = λ first saved h.
    let below : (state_of c.args.live).batches < GREATEST_NUMBER = omega (arith, c.batches.ensures, c.if-batches-ge-GREATEST_NUMBER.false) in
    holds_next c.args.live c.new.result.items c.new.ensures.items c.args.line below (g.K.Sink.given c.args.out.now)
    (g.K.Sink.given c.serve_batch-next.new.out) c.serve_batch-next.result
    c.serve_batch-next.ensures.tells c.in-Some.next c.in-Some.is c.serve_batch-next.ensures.store first saved (g.D.Disk.history c.args.disk.now)
    (g.D.Disk.history c.serve_batch-next.new.disk)
    c.serve_batch-next.ensures.holds h

pub returns-in-Some-clause-store : goal.returns-in-Some-clause-store
returns-in-Some-clause-store g c =
    let below : (state_of c.args.live).batches < GREATEST_NUMBER = omega (arith, c.batches.ensures, c.if-batches-ge-GREATEST_NUMBER.false) in
    none_next c.args.live c.new.result.items c.new.ensures.items c.args.line below (g.K.Sink.given c.args.out.now)
    (g.K.Sink.given c.serve_batch-next.new.out) c.serve_batch-next.result
    c.serve_batch-next.ensures.tells c.in-Some.next c.in-Some.is c.serve_batch-next.ensures.store

pub returns-in-Some-clause-disk : goal.returns-in-Some-clause-disk
returns-in-Some-clause-disk g c =
    let below : (state_of c.args.live).batches < GREATEST_NUMBER = omega (arith, c.batches.ensures, c.if-batches-ge-GREATEST_NUMBER.false) in
    told_here c.args.live c.new.result.items c.new.ensures.items c.args.line below (g.K.Sink.given c.args.out.now)
    (g.K.Sink.given c.serve_batch-next.new.out) c.serve_batch-next.result
    c.serve_batch-next.ensures.tells c.in-Some.next c.in-Some.is
    (λ (n : Live). (g.D.Disk.history c.args.disk.now).faults ≤ (g.D.Disk.history c.serve_batch-next.new.disk).faults)
    c.serve_batch-next.ensures.disk

-- ---- it was cut off

pub returns-in-None-clause-serves : goal.returns-in-None-clause-serves
returns-in-None-clause-serves g c =
    let below : (state_of c.args.live).batches < GREATEST_NUMBER = omega (arith, c.batches.ensures, c.if-batches-ge-GREATEST_NUMBER.false) in
    one_cut c.args.live c.new.result.items c.new.ensures.items c.args.line below (g.K.Sink.given c.args.out.now)
    (g.K.Sink.given c.serve_batch-next.new.out) c.serve_batch-next.result
    c.serve_batch-next.ensures.tells c.why_stopped.result c.in-None.is c.why_stopped.ensures

pub returns-in-None-clause-keeps : goal.returns-in-None-clause-keeps
returns-in-None-clause-keeps g c = λ ck later d end h.
    let below : (state_of c.args.live).batches < GREATEST_NUMBER = omega (arith, c.batches.ensures, c.if-batches-ge-GREATEST_NUMBER.false) in
    let some : (length (state_of c.args.live).waiting == 0) ≡ false = some_waits (length (state_of c.args.live).waiting) c.requires.some in
    keeps_cut c.args.live c.new.result.items c.new.ensures.items c.args.line below (g.K.Sink.given c.args.out.now)
    (g.K.Sink.given c.serve_batch-next.new.out) c.serve_batch-next.result
    c.serve_batch-next.ensures.tells some d end (g.D.Disk.history c.args.disk.now) (g.D.Disk.history c.serve_batch-next.new.disk)
    (as_either c.args.live c.new.result.items c.new.ensures.items c.args.line below (g.K.Sink.given c.args.out.now)
    (g.K.Sink.given c.serve_batch-next.new.out) c.serve_batch-next.result
    c.serve_batch-next.ensures.tells (next_due c.args.live c.new.result.items) ck later
    (added later c.args.live.config.rule c.args.live.config.fallback c.new.result.items) (g.D.Disk.history c.args.disk.now)
    (g.D.Disk.history c.serve_batch-next.new.disk)
    (c.serve_batch-next.ensures.images ck later h))
    (as_after c.args.live c.new.result.items c.new.ensures.items c.args.line below (g.K.Sink.given c.args.out.now)
    (g.K.Sink.given c.serve_batch-next.new.out) c.serve_batch-next.result
    c.serve_batch-next.ensures.tells (next_due c.args.live c.new.result.items) ck later
    (added later c.args.live.config.rule c.args.live.config.fallback c.new.result.items) _ (g.D.Disk.history c.serve_batch-next.new.disk)
    (c.serve_batch-next.ensures.answered ck later h)) c.in-None.is

pub returns-in-None-clause-refused : goal.returns-in-None-clause-refused
returns-in-None-clause-refused g c e =
    let same : c.why_stopped.result ≡ stop.Refused = cc in
    absurd (not_refused c.serve_batch-next.result.1 c.why_stopped.result c.why_stopped.ensures same)

pub returns-in-None-clause-cause : goal.returns-in-None-clause-cause
returns-in-None-clause-cause g c =
    cut_cause c.args.live.store c.serve_batch-next.result.1 c.why_stopped.result
    (Rose (g.K.Sink.faults c.args.out.now) (g.K.Sink.faults c.serve_batch-next.new.out))
    (Rose (g.D.Disk.history c.args.disk.now).faults (g.D.Disk.history c.serve_batch-next.new.disk).faults)
    c.serve_batch-next.ensures.cause c.serve_batch-next.ensures.storeless c.why_stopped.ensures

pub returns-then-batches-ge-GREATEST_NUMBER-clause-left : goal.returns-then-batches-ge-GREATEST_NUMBER-clause-left
returns-then-batches-ge-GREATEST_NUMBER-clause-left g c = λ first saved d end h.
    let live = c.args.live in
    left_still live.checkpoint first (Drain ∷ []) d saved (g.D.Disk.history c.args.disk.now) (plan_of live) (stored_state live) live.store h

pub returns-in-Some-clause-left : goal.returns-in-Some-clause-left
returns-in-Some-clause-left g c = λ first saved d end h.
    let below : (state_of c.args.live).batches < GREATEST_NUMBER = omega (arith, c.batches.ensures, c.if-batches-ge-GREATEST_NUMBER.false) in
    let some : (length (state_of c.args.live).waiting == 0) ≡ false = some_waits (length (state_of c.args.live).waiting) c.requires.some in
    drain_left c.args.live c.new.result.items c.new.ensures.items c.args.line below (g.K.Sink.given c.args.out.now)
    (g.K.Sink.given c.serve_batch-next.new.out) c.serve_batch-next.result
    c.serve_batch-next.ensures.tells some first saved d end (g.D.Disk.history c.args.disk.now) (g.D.Disk.history c.serve_batch-next.new.disk) h
    (c.serve_batch-next.ensures.images saved.c saved.later h.stands.holds)

pub returns-in-None-clause-left : goal.returns-in-None-clause-left
returns-in-None-clause-left g c = λ first saved d end h.
    let below : (state_of c.args.live).batches < GREATEST_NUMBER = omega (arith, c.batches.ensures, c.if-batches-ge-GREATEST_NUMBER.false) in
    let some : (length (state_of c.args.live).waiting == 0) ≡ false = some_waits (length (state_of c.args.live).waiting) c.requires.some in
    drain_left c.args.live c.new.result.items c.new.ensures.items c.args.line below (g.K.Sink.given c.args.out.now)
    (g.K.Sink.given c.serve_batch-next.new.out) c.serve_batch-next.result
    c.serve_batch-next.ensures.tells some first saved d end (g.D.Disk.history c.args.disk.now) (g.D.Disk.history c.serve_batch-next.new.disk) h
    (c.serve_batch-next.ensures.images saved.c saved.later h.stands.holds)
