use Rattle.std.proofs.Common.{◌≡◌, ◌∙◌, ◌+◌, drop, [], ◌∷◌, arith, refl}
use Rattle.std.specs.Prelude.{Ok, Err}
use Rattle.std.proofs.KnownBytes.{Appends-nil}
use Rattle.std.proofs.lemmas.List.{drop_all}
use Rattle.script_course.proofs.Turns.{goes_on, stops_at, next_of}
use Rattle.run_commands.specs.Onces.{on_line}
use Rattle.run_commands.specs.Passes.{Line}
use Rattle.run_commands.specs.Turns.{saved_over}
use Rattle.run_commands.proofs.Causes.{cause_since}
use Rattle.run_commands.proofs.Turns.{cut_line, lead_line, lines_end, short_next}
use Rattle.run_commands.proofs.loops.each_line.Goals as goal

pub serve-requires-clause-short : goal.serve-requires-clause-short
serve-requires-clause-short g c κs within =
    let left = next_of c.args.lines.now c.loop-line.line-index c.line-item.result c.as_slice.result.now c.loop-line-test.true c.line-item.is
    c.as_slice.ensures in
    short_next c.args.lines.now c.loop-line.line-index c.as_slice.result.now (drop (c.loop-line.line-index + 1) c.args.lines.now) left c.requires.short

pub loop-line-preserved : goal.loop-line-preserved
loop-line-preserved g c =
    let left = next_of c.args.lines.now c.loop-line.line-index c.line-item.result c.as_slice.result.now c.loop-line-test.true c.line-item.is
    c.as_slice.ensures in
    let lines = drop (c.loop-line.line-index + 1) c.args.lines.now in
    record {
      opens = c.in-Ok.ensures.open;
      store = λ none. c.in-Ok.ensures.store (c.loop-line.invariant.store none);
      untouched = λ none. c.serve.ensures.untouched (c.loop-line.invariant.store none) ∙ c.loop-line.invariant.untouched none;
      sink = omega (arith, c.serve.ensures.sink, c.loop-line.invariant.sink);
      faults = omega (arith, c.in-Ok.ensures.disk, c.loop-line.invariant.faults);
      leads = λ new result h. c.loop-line.invariant.leads new result
          (rw left (goes_on on_line c.loop-line.script.doing c.in-Ok.next.doing c.as_slice.result.now lines
          (g.K.Sink.given c.loop-line.out) (g.K.Sink.given c.serve.new.out) c.in-Ok.ensures.serves new result h));
      kept = λ first saved h.
          let inv = c.loop-line.invariant.kept first saved h in
          let k = c.in-Ok.ensures.keeps first inv.0 inv.1 in (
            saved_over (Line c.as_slice.result.now ∷ []) c.loop-line.script inv.0,
            k.stays.holds,
            λ new given result rest. inv.2 new given result
                (lead_line first inv.0 c.as_slice.result.now lines (drop c.loop-line.line-index c.args.lines.now) left c.loop-line.script
                (g.D.Disk.history c.loop-line.disk) (g.D.Disk.history c.serve.new.disk) (g.K.Sink.given c.loop-line.out)
                (g.K.Sink.given c.serve.new.out) c.in-Ok.next c.in-Ok.ensures.serves k new given result rest),
          );
    }

pub returns-in-Err-clause-serves : goal.returns-in-Err-clause-serves
returns-in-Err-clause-serves g c =
    let left = next_of c.args.lines.now c.loop-line.line-index c.line-item.result c.as_slice.result.now c.loop-line-test.true c.line-item.is
    c.as_slice.ensures in
    let new = g.K.Sink.given c.serve.new.out in
    c.loop-line.invariant.leads new (Err c.in-Err.stop)
    (rw left (stops_at on_line c.loop-line.script.doing c.as_slice.result.now (drop (c.loop-line.line-index + 1) c.args.lines.now)
    (g.K.Sink.given c.loop-line.out) new c.in-Err.stop c.in-Err.ensures.serves))

pub returns-in-Err-clause-keeps : goal.returns-in-Err-clause-keeps
returns-in-Err-clause-keeps g c = λ first saved h.
    let left = next_of c.args.lines.now c.loop-line.line-index c.line-item.result c.as_slice.result.now c.loop-line-test.true c.line-item.is
    c.as_slice.ensures in
    let inv = c.loop-line.invariant.kept first saved h in
    let disk = g.D.Disk.history c.serve.new.disk in
    let given = g.K.Sink.given c.serve.new.out in
    inv.2 disk given (Err c.in-Err.stop)
    (cut_line first inv.0 c.as_slice.result.now (drop (c.loop-line.line-index + 1) c.args.lines.now)
    (drop c.loop-line.line-index c.args.lines.now) left c.loop-line.script (g.D.Disk.history c.loop-line.disk) disk
    (g.K.Sink.given c.loop-line.out) given c.in-Err.stop c.in-Err.ensures.serves (c.in-Err.ensures.keeps first inv.0 inv.1))

pub returns-in-Err-clause-cause : goal.returns-in-Err-clause-cause
returns-in-Err-clause-cause g c =
    let start = g.D.Disk.history c.args.disk.now in
    let now = g.D.Disk.history c.loop-line.disk in
    let new = g.D.Disk.history c.serve.new.disk in
    cause_since c.args.start.store c.loop-line.script.store c.loop-line.invariant.store (g.K.Sink.faults c.args.out.now) (g.K.Sink.faults c.loop-line.out)
    (g.K.Sink.faults c.serve.new.out)
    c.loop-line.invariant.sink start.faults now.faults new.faults c.loop-line.invariant.faults c.in-Err.stop c.in-Err.ensures.cause

pub returns-clause-serves : goal.returns-clause-serves
returns-clause-serves g c =
    let none : drop c.loop-line.line-index c.args.lines.now ≡ [] = drop_all c.loop-line.line-index c.args.lines.now (omega arith) in
    let now = g.K.Sink.given c.loop-line.out in
    c.loop-line.invariant.leads now (Ok c.loop-line.script.doing) (rw none (refl, Appends-nil now))

pub returns-clause-keeps : goal.returns-clause-keeps
returns-clause-keeps g c = λ first saved h.
    let none : drop c.loop-line.line-index c.args.lines.now ≡ [] = drop_all c.loop-line.line-index c.args.lines.now (omega arith) in
    let inv = c.loop-line.invariant.kept first saved h in
    let disk = g.D.Disk.history c.loop-line.disk in
    let now = g.K.Sink.given c.loop-line.out in
    inv.2 disk now (Ok c.loop-line.script) (lines_end first inv.0 c.loop-line.script (drop c.loop-line.line-index c.args.lines.now) disk now none inv.1)
