use Rattle.std.specs.Prelude.{Ok, Err}
use Rattle.script_course.proofs.Ends.{completes_on, completes_cut}
use Rattle.script_course.specs.Courses.{told_whole}
use Rattle.script_rows.proofs.Inputs.{read_from}
use Rattle.check_command.specs.Checks.{on_end, on_line, start}
use Rattle.check_command.specs.Outs.{no_line, told_of}
use Rattle.check_command.proofs.commands.check_report.Goals as goal

pub returns-in-Ok-read_through-clause-completes : goal.returns-in-Ok-read_through-clause-completes
returns-in-Ok-read_through-clause-completes g c =
    completes_on on_end told_of (told_whole on_line no_line start) (g.S.Source.left c.args.input.now) (g.S.Source.left c.read_through.new.input)
    (g.K.Sink.given c.args.out.now) (g.K.Sink.given c.read_through.new.out) (g.K.Sink.given c.end_of.new.out) c.in-Ok-read_through.last c.end_of.result
    (read_from on_line no_line (g.S.Source.left c.args.input.now) (g.S.Source.left c.read_through.new.input) (g.K.Sink.given c.args.out.now)
    (g.K.Sink.given c.read_through.new.out) c.in-Ok.start start (Ok c.in-Ok-read_through.last) c.in-Ok.ensures c.in-Ok-read_through.ensures.comes)
    c.end_of.ensures.read c.end_of.ensures.finishes

pub returns-in-Err-clause-completes : goal.returns-in-Err-clause-completes
returns-in-Err-clause-completes g c =
    completes_cut on_end told_of (told_whole on_line no_line start) (g.S.Source.left c.args.input.now) (g.S.Source.left c.read_through.new.input)
    (g.K.Sink.given c.args.out.now) (g.K.Sink.given c.read_through.new.out) c.in-Err.stop
    (read_from on_line no_line (g.S.Source.left c.args.input.now) (g.S.Source.left c.read_through.new.input) (g.K.Sink.given c.args.out.now)
    (g.K.Sink.given c.read_through.new.out) c.in-Ok.start start (Err c.in-Err.stop) c.in-Ok.ensures c.in-Err.ensures.comes)
