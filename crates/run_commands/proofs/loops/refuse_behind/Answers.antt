use Rattle.std.proofs.Common.{[]}
use Rattle.script_course.specs.Courses.{Goes, with_lines}
use Rattle.script_course.proofs.Turns.{refused_on, refused_cut}
use Rattle.answer_text.specs.Refusals.{refusal_text}
use Rattle.run_commands.specs.Onces.{doing_result, on_line}
use Rattle.run_commands.proofs.Moved.{refused_doing}
use Rattle.run_commands.proofs.Turns.{fault_cut, fault_kept}
use Rattle.run_commands.proofs.loops.refuse_behind.Goals as goal

pub returns-in-Ok-clause-serves : goal.returns-in-Ok-clause-serves
returns-in-Ok-clause-serves g c =
    refused_on (with_lines on_line (Goes [] c.args.script.doing) c.args.lines.now) c.in-Ok.field-0.doing c.args.refusal.now (g.K.Sink.given c.args.out.now)
    (g.K.Sink.given c.each_line.new.out) (g.K.Sink.given c.refuse.new.out)
    (doing_result c.refuse.result) c.in-Ok.ensures.serves (refused_doing (refusal_text c.args.refusal.now) (g.K.Sink.given c.each_line.new.out)
    (g.K.Sink.given c.refuse.new.out) c.refuse.result c.refuse.ensures.serves)

pub returns-in-Err-clause-serves : goal.returns-in-Err-clause-serves
returns-in-Err-clause-serves g c =
    refused_cut (with_lines on_line (Goes [] c.args.script.doing) c.args.lines.now) c.args.refusal.now (g.K.Sink.given c.args.out.now)
    (g.K.Sink.given c.each_line.new.out) c.in-Err.stop c.in-Err.ensures.serves

pub returns-in-Ok-clause-keeps : goal.returns-in-Ok-clause-keeps
returns-in-Ok-clause-keeps g c = λ first saved h.
    let given = g.K.Sink.given c.each_line.new.out in
    let last = g.K.Sink.given c.refuse.new.out in
    fault_kept first saved c.args.lines.now c.args.refusal.now c.args.script (g.D.Disk.history c.args.disk.now) (g.D.Disk.history c.each_line.new.disk)
    (g.K.Sink.given c.args.out.now) given c.in-Ok.field-0 last
    c.refuse.result c.in-Ok.ensures.serves (refused_doing (refusal_text c.args.refusal.now) given last c.refuse.result c.refuse.ensures.serves)
    (c.in-Ok.ensures.keeps first saved h)

pub returns-in-Err-clause-keeps : goal.returns-in-Err-clause-keeps
returns-in-Err-clause-keeps g c = λ first saved h.
    fault_cut first saved c.args.lines.now c.args.refusal.now c.args.script (g.D.Disk.history c.args.disk.now) (g.D.Disk.history c.each_line.new.disk)
    (g.K.Sink.given c.args.out.now) (g.K.Sink.given c.each_line.new.out)
    c.in-Err.stop c.in-Err.ensures.serves (c.in-Err.ensures.keeps first saved h)
