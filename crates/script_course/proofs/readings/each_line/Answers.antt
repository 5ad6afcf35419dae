use Rattle.std.proofs.Common.{◌≡◌, ◌+◌, drop, [], arith, refl}
use Rattle.std.specs.Prelude.{Ok, Err}
use Rattle.std.proofs.KnownBytes.{Appends-nil}
use Rattle.std.proofs.lemmas.List.{drop_all}
use Rattle.script_course.proofs.Turns.{goes_on, stops_at, next_of}
use Rattle.script_course.proofs.readings.each_line.Goals as goal

pub loop-line-preserved : goal.loop-line-preserved
loop-line-preserved g c =
    let left = next_of c.args.lines.now c.loop-line.line-index c.line-item.result c.as_slice.result.now c.loop-line-test.true c.line-item.is
    c.as_slice.ensures in
    record {
      sink = omega (arith, c.line.ensures.sink, c.loop-line.invariant.sink);
      held = c.in-Ok.ensures.held;
      leads = λ new result h. c.loop-line.invariant.leads new result
          (rw left (goes_on g.C.Reads.on_line c.loop-line.course c.in-Ok.next c.as_slice.result.now (drop (c.loop-line.line-index + 1) c.args.lines.now)
          (g.K.Sink.given c.loop-line.out) (g.K.Sink.given c.line.new.out) c.in-Ok.ensures.serves new result h));
    }

pub returns-in-Err-clause-serves : goal.returns-in-Err-clause-serves
returns-in-Err-clause-serves g c =
    let left = next_of c.args.lines.now c.loop-line.line-index c.line-item.result c.as_slice.result.now c.loop-line-test.true c.line-item.is
    c.as_slice.ensures in
    let new = g.K.Sink.given c.line.new.out in
    c.loop-line.invariant.leads new (Err c.in-Err.stop)
    (rw left (stops_at g.C.Reads.on_line c.loop-line.course c.as_slice.result.now (drop (c.loop-line.line-index + 1) c.args.lines.now)
    (g.K.Sink.given c.loop-line.out) new c.in-Err.stop c.in-Err.ensures.serves))

pub returns-clause-serves : goal.returns-clause-serves
returns-clause-serves g c =
    let none : drop c.loop-line.line-index c.args.lines.now ≡ [] = drop_all c.loop-line.line-index c.args.lines.now (omega arith) in
    let now = g.K.Sink.given c.loop-line.out in
    c.loop-line.invariant.leads now (Ok c.loop-line.course) (rw none (refl, Appends-nil now))
