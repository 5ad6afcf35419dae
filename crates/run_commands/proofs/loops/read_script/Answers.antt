use Rattle.std.proofs.Common.{◌∙◌, ◌≤◌, sym, refl, subst, length, take, arith}
use Rattle.aria_base.specs.declared.limits.TheConstants.{LONGEST_LINE}
use Rattle.script_course.specs.Courses.{told, told_whole}
use Rattle.script_course.specs.Served.{Carries}
use Rattle.std.specs.Prelude.{Err}
use Rattle.aria_base.specs.Faults.{Rose}
use Rattle.std.proofs.lemmas.List.{length-take-le}
use Rattle.script_course.specs.declared.stops.Stop.TheVariants as stop
use Rattle.script_course.proofs.Wholes.{comes_on, comes_cut, comes_end, comes_fault, end_before}
use Rattle.script_course.proofs.Measures.{gone}
use Rattle.run_commands.specs.Onces.{doing_result, on_line}
use Rattle.run_commands.proofs.Causes.{read_since, reads_since}
use Rattle.run_commands.proofs.Feeds.{taken_begun, taken_longest}
use Rattle.run_commands.proofs.Pieces.{CarriesText, any_kept, cut_kept, end_kept, piece_kept}
use Rattle.run_commands.proofs.Turns.{none_kept}
use Rattle.run_commands.specs.Outs.{no_line}
use Rattle.run_commands.specs.Passes.{turns}
use Rattle.run_commands.specs.Turns.{saved_over}
use Rattle.script_text.specs.Lines.{Feed, scan}
use Rattle.run_commands.proofs.loops.read_script.Goals as goal

pub loop-count-init : goal.loop-count-init
loop-count-init g c =
    let start = c.args.start in
    let disk = g.D.Disk.history c.args.disk.now in
    let left = g.S.Source.left c.args.input.now in
    let given = g.K.Sink.given c.args.out.now in
    let is = sym c.new-lines.ensures in
    record {
      opens = c.requires.open;
      store = λ none. none;
      untouched = λ none. refl;
      source = omega arith;
      sink = omega arith;
      faults = omega arith;
      within = subst (λ (l : Feed). l.taken ≤ l.limit) is (omega arith);
      longest = subst (λ (l : Feed). l.longest ≤ LONGEST_LINE) is (omega arith);
      begun = subst (λ (l : Feed). length l.begun ≤ l.longest) is (omega arith);
      leads = subst (λ (l : Feed). Carries (told on_line l start.doing) (told_whole on_line l start.doing) left given
          (told on_line no_line start.doing) (told_whole on_line no_line start.doing) left given) is (λ rest new result h. h);
      kept = λ first saved h. (
        saved,
        h,
        subst (λ (l : Feed). CarriesText first saved l start disk left given saved no_line start disk left given) is (λ new given_new result k. k),
      );
    }

pub returns-in_default-clause-comes : goal.returns-in_default-clause-comes
returns-in_default-clause-comes g c =
    let now = g.K.Sink.given c.loop-count.out in
    c.loop-count.invariant.leads (g.S.Source.left c.take.new.self) now (Err stop.NoRead)
    (comes_fault on_line c.loop-count.lines c.loop-count.script.doing (g.S.Source.left c.loop-count.input)
    (g.S.Source.left c.take.new.self) now c.in_default.ensures.bytes)

pub returns-in_default-clause-keeps : goal.returns-in_default-clause-keeps
returns-in_default-clause-keeps g c = λ first saved h.
    let inv = c.loop-count.invariant.kept first saved h in
    let disk = g.D.Disk.history c.loop-count.disk in
    let now = g.K.Sink.given c.loop-count.out in
    inv.2 disk now (Err stop.NoRead)
    (any_kept first inv.0 c.loop-count.lines c.loop-count.script disk now (g.S.Source.left c.loop-count.input) disk now (Err stop.NoRead)
    (λ steps. none_kept first inv.0 steps c.loop-count.script disk now stop.NoRead (λ e. absurd cc) inv.1))

pub returns-then-count-eq0-clause-comes : goal.returns-then-count-eq0-clause-comes
returns-then-count-eq0-clause-comes g c =
    let left = g.S.Source.left c.loop-count.input in
    let rest = g.S.Source.left c.take.new.self in
    let end = end_before left rest c.in-Ok.count c.take.new.buf c.if-count-eq0.true c.in-Ok.ensures.bytes.1 c.in-Ok.ensures.bytes.2 in
    c.loop-count.invariant.leads rest (g.K.Sink.given c.finish.new.out) (doing_result c.finish.result)
    (comes_end on_line c.loop-count.lines c.loop-count.script.doing left rest (g.K.Sink.given c.loop-count.out) (g.K.Sink.given c.finish.new.out)
    (doing_result c.finish.result) end c.finish.ensures.serves)

pub returns-then-count-eq0-clause-keeps : goal.returns-then-count-eq0-clause-keeps
returns-then-count-eq0-clause-keeps g c = λ first saved h.
    let inv = c.loop-count.invariant.kept first saved h in
    let left = g.S.Source.left c.loop-count.input in
    let rest = g.S.Source.left c.take.new.self in
    let end = end_before left rest c.in-Ok.count c.take.new.buf c.if-count-eq0.true c.in-Ok.ensures.bytes.1 c.in-Ok.ensures.bytes.2 in
    let disk = g.D.Disk.history c.finish.new.disk in
    let given = g.K.Sink.given c.finish.new.out in
    inv.2 disk given c.finish.result
    (end_kept first inv.0 c.loop-count.lines c.loop-count.script (g.D.Disk.history c.loop-count.disk)
    (g.K.Sink.given c.loop-count.out) left disk given c.finish.result end (c.finish.ensures.keeps first inv.0 inv.1))

pub returns-then-count-eq0-clause-cause : goal.returns-then-count-eq0-clause-cause
returns-then-count-eq0-clause-cause g c =
    let start = g.D.Disk.history c.args.disk.now in
    let now = g.D.Disk.history c.loop-count.disk in
    let new = g.D.Disk.history c.finish.new.disk in
    reads_since c.args.start.store c.loop-count.script.store c.loop-count.invariant.store (g.K.Sink.faults c.args.out.now) (g.K.Sink.faults c.loop-count.out)
    (g.K.Sink.faults c.finish.new.out)
    c.loop-count.invariant.sink start.faults now.faults new.faults c.loop-count.invariant.faults
    (Rose (g.S.Source.faults c.args.input.now) (g.S.Source.faults c.take.new.self)) c.finish.result c.finish.ensures.cause

pub loop-count-smaller : goal.loop-count-smaller
loop-count-smaller g c =
    let piece = take c.in-Ok.count c.take.new.buf in
    let on = gone c.loop-count.lines c.take_piece.new.lines piece c.loop-count.invariant.within c.in-Ok-take_piece.ensures.taken.0
    c.in-Ok-take_piece.ensures.taken.1 in
    omega (arith, on.0, on.1, on.2, length-take-le c.in-Ok.count c.take.new.buf c.in-Ok.ensures.bytes.0)

pub loop-count-preserved : goal.loop-count-preserved
loop-count-preserved g c =
    let piece = take c.in-Ok.count c.take.new.buf in
    let taken = c.in-Ok-take_piece.ensures.taken in
    let on = gone c.loop-count.lines c.take_piece.new.lines piece c.loop-count.invariant.within taken.0 taken.1 in
    record {
      opens = c.in-Ok-take_piece.ensures.open;
      store = λ none. c.in-Ok-take_piece.ensures.store (c.loop-count.invariant.store none);
      untouched = λ none. c.take_piece.ensures.untouched (c.loop-count.invariant.store none) ∙ c.loop-count.invariant.untouched none;
      source = omega (arith, c.in-Ok.ensures.kept, c.loop-count.invariant.source);
      sink = omega (arith, c.take_piece.ensures.sink, c.loop-count.invariant.sink);
      faults = omega (arith, c.in-Ok-take_piece.ensures.disk, c.loop-count.invariant.faults);
      within = on.2;
      longest = taken_longest c.loop-count.lines c.take_piece.new.lines piece taken.1 c.loop-count.invariant.begun c.loop-count.invariant.longest;
      begun = taken_begun c.loop-count.lines c.take_piece.new.lines piece taken.1 c.loop-count.invariant.begun;
      leads = λ rest new result h. c.loop-count.invariant.leads rest new result
          (comes_on on_line c.loop-count.lines c.take_piece.new.lines c.loop-count.script.doing c.in-Ok-take_piece.next.doing piece
          (g.S.Source.left c.loop-count.input) (g.S.Source.left c.take.new.self)
          (g.K.Sink.given c.loop-count.out) (g.K.Sink.given c.take_piece.new.out) c.in-Ok.ensures.bytes.1 c.in-Ok-take_piece.ensures.serves taken.0 taken.1
          rest new result h);
      kept = λ first saved h.
          let inv = c.loop-count.invariant.kept first saved h in
          let k = c.in-Ok-take_piece.ensures.keeps first inv.0 inv.1 in (
            saved_over (turns (scan c.loop-count.lines piece)) c.loop-count.script inv.0,
            k.stays.holds,
            λ new given result rest. inv.2 new given result
                (piece_kept first inv.0 c.loop-count.lines c.loop-count.script (g.D.Disk.history c.loop-count.disk) (g.K.Sink.given c.loop-count.out)
                (g.S.Source.left c.loop-count.input) (g.S.Source.left c.take.new.self) piece c.take_piece.new.lines c.in-Ok-take_piece.next
                (g.D.Disk.history c.take_piece.new.disk) new (g.K.Sink.given c.take_piece.new.out) given result c.in-Ok.ensures.bytes.1
                c.in-Ok-take_piece.ensures.serves taken.0 taken.1 k rest),
          );
    }

pub returns-in-Err-clause-comes : goal.returns-in-Err-clause-comes
returns-in-Err-clause-comes g c =
    let piece = take c.in-Ok.count c.take.new.buf in
    let rest = g.S.Source.left c.take.new.self in
    let new = g.K.Sink.given c.take_piece.new.out in
    c.loop-count.invariant.leads rest new (Err c.in-Err.stop)
    (comes_cut on_line c.loop-count.lines c.loop-count.script.doing piece (g.S.Source.left c.loop-count.input) rest
    (g.K.Sink.given c.loop-count.out) new c.in-Err.stop c.in-Ok.ensures.bytes.1 c.in-Err.ensures.serves)

pub returns-in-Err-clause-keeps : goal.returns-in-Err-clause-keeps
returns-in-Err-clause-keeps g c = λ first saved h.
    let inv = c.loop-count.invariant.kept first saved h in
    let piece = take c.in-Ok.count c.take.new.buf in
    let disk = g.D.Disk.history c.take_piece.new.disk in
    let new = g.K.Sink.given c.take_piece.new.out in
    inv.2 disk new (Err c.in-Err.stop)
    (cut_kept first inv.0 c.loop-count.lines c.loop-count.script (g.D.Disk.history c.loop-count.disk) (g.K.Sink.given c.loop-count.out)
    (g.S.Source.left c.loop-count.input) (g.S.Source.left c.take.new.self) piece disk new
    c.in-Err.stop c.in-Ok.ensures.bytes.1 c.in-Err.ensures.serves (c.in-Err.ensures.keeps first inv.0 inv.1))

pub returns-in-Err-clause-cause : goal.returns-in-Err-clause-cause
returns-in-Err-clause-cause g c =
    let start = g.D.Disk.history c.args.disk.now in
    let now = g.D.Disk.history c.loop-count.disk in
    let new = g.D.Disk.history c.take_piece.new.disk in
    read_since c.args.start.store c.loop-count.script.store c.loop-count.invariant.store (g.K.Sink.faults c.args.out.now) (g.K.Sink.faults c.loop-count.out)
    (g.K.Sink.faults c.take_piece.new.out)
    c.loop-count.invariant.sink start.faults now.faults new.faults c.loop-count.invariant.faults
    (Rose (g.S.Source.faults c.args.input.now) (g.S.Source.faults c.take.new.self)) c.in-Err.stop c.in-Err.ensures.cause
