use Rattle.std.proofs.Common.{take, arith}
use Rattle.std.specs.Prelude.{Err}
use Rattle.std.proofs.lemmas.List.{length-take-le}
use Rattle.script_course.specs.declared.stops.Stop.TheVariants as stop
use Rattle.script_course.proofs.Wholes.{comes_on, comes_cut, comes_end, comes_fault, end_before}
use Rattle.script_course.proofs.Measures.{gone}
use Rattle.script_course.proofs.readings.read_through.Goals as goal

pub returns-in_default-clause-comes : goal.returns-in_default-clause-comes
returns-in_default-clause-comes g c =
    let now = g.K.Sink.given c.loop-count.out in
    c.loop-count.invariant.leads (g.S.Source.left c.take.new.self) now (Err stop.NoRead)
    (comes_fault g.C.Reads.on_line c.loop-count.lines c.loop-count.course (g.S.Source.left c.loop-count.input)
    (g.S.Source.left c.take.new.self) now c.in_default.ensures.bytes)

pub returns-then-count-eq0-clause-comes : goal.returns-then-count-eq0-clause-comes
returns-then-count-eq0-clause-comes g c =
    let left = g.S.Source.left c.loop-count.input in
    let rest = g.S.Source.left c.take.new.self in
    let end = end_before left rest c.in-Ok.count c.take.new.buf c.if-count-eq0.true c.in-Ok.ensures.bytes.1 c.in-Ok.ensures.bytes.2 in
    c.loop-count.invariant.leads rest (g.K.Sink.given c.finish.new.out) c.finish.result
    (comes_end g.C.Reads.on_line c.loop-count.lines c.loop-count.course left rest (g.K.Sink.given c.loop-count.out)
    (g.K.Sink.given c.finish.new.out) c.finish.result end c.finish.ensures.serves)

pub loop-count-smaller : goal.loop-count-smaller
loop-count-smaller g c =
    let piece = take c.in-Ok.count c.take.new.buf in
    let on = gone c.loop-count.lines c.take_piece.new.lines piece c.loop-count.invariant.within c.in-Ok-take_piece.ensures.taken.0
    c.in-Ok-take_piece.ensures.taken.1 in
    omega (arith, on.0, on.1, on.2, length-take-le c.in-Ok.count c.take.new.buf c.in-Ok.ensures.bytes.0)

pub loop-count-preserved : goal.loop-count-preserved
loop-count-preserved g c =
    let piece = take c.in-Ok.count c.take.new.buf in
    let on = gone c.loop-count.lines c.take_piece.new.lines piece c.loop-count.invariant.within c.in-Ok-take_piece.ensures.taken.0
    c.in-Ok-take_piece.ensures.taken.1 in
    record {
      source = omega (arith, c.in-Ok.ensures.kept, c.loop-count.invariant.source);
      sink = omega (arith, c.take_piece.ensures.sink, c.loop-count.invariant.sink);
      within = on.2;
      held = c.in-Ok-take_piece.ensures.held;
      leads = λ rest new result h. c.loop-count.invariant.leads rest new result
          (comes_on g.C.Reads.on_line c.loop-count.lines c.take_piece.new.lines c.loop-count.course c.in-Ok-take_piece.next piece
          (g.S.Source.left c.loop-count.input) (g.S.Source.left c.take.new.self)
          (g.K.Sink.given c.loop-count.out) (g.K.Sink.given c.take_piece.new.out) c.in-Ok.ensures.bytes.1 c.in-Ok-take_piece.ensures.serves
          c.in-Ok-take_piece.ensures.taken.0 c.in-Ok-take_piece.ensures.taken.1 rest new result h);
    }

pub returns-in-Err-clause-comes : goal.returns-in-Err-clause-comes
returns-in-Err-clause-comes g c =
    let piece = take c.in-Ok.count c.take.new.buf in
    let rest = g.S.Source.left c.take.new.self in
    let new = g.K.Sink.given c.take_piece.new.out in
    c.loop-count.invariant.leads rest new (Err c.in-Err.stop)
    (comes_cut g.C.Reads.on_line c.loop-count.lines c.loop-count.course piece (g.S.Source.left c.loop-count.input) rest
    (g.K.Sink.given c.loop-count.out) new c.in-Err.stop c.in-Ok.ensures.bytes.1 c.in-Err.ensures.serves)
