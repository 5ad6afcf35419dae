use Rattle.std.proofs.Common.{◌≡◌, ◌∙◌, ap}
use Rattle.std.specs.Prelude.{Ok, Err}
use Rattle.run_commands.specs.Outs.{no_line}
use Rattle.script_course.proofs.Ends.{completes_on, completes_cut}
use Rattle.script_course.specs.Courses.{told_whole}
use Rattle.script_rows.proofs.Inputs.{read_from}
use Rattle.nodes_command.specs.Outs.{start_of, start_with, told_of}
use Rattle.nodes_command.specs.Scripts.{on_end, on_line}
use Rattle.nodes_command.proofs.commands.nodes.Goals as goal

pub returns-in-Ok-read_through-clause-completes : goal.returns-in-Ok-read_through-clause-completes
returns-in-Ok-read_through-clause-completes g c =
    let settings = c.args.settings.now in
    let start : c.in-Ok.start ≡ start_of settings = c.in-Ok.ensures ∙ ap (start_with settings.rule) c.is_each-each.ensures in
    completes_on (on_end settings.drain) (told_of settings) (told_whole on_line no_line (start_of settings)) (g.S.Source.left c.args.input.now)
    (g.S.Source.left c.read_through.new.input) (g.K.Sink.given c.args.out.now) (g.K.Sink.given c.read_through.new.out) (g.K.Sink.given c.end_of.new.out)
    c.in-Ok-read_through.last c.end_of.result
    (read_from on_line no_line (g.S.Source.left c.args.input.now) (g.S.Source.left c.read_through.new.input) (g.K.Sink.given c.args.out.now)
    (g.K.Sink.given c.read_through.new.out) c.in-Ok.start (start_of settings) (Ok c.in-Ok-read_through.last) start c.in-Ok-read_through.ensures.comes)
    c.end_of.ensures.read c.end_of.ensures.finishes

pub returns-in-Err-clause-completes : goal.returns-in-Err-clause-completes
returns-in-Err-clause-completes g c =
    let settings = c.args.settings.now in
    let start : c.in-Ok.start ≡ start_of settings = c.in-Ok.ensures ∙ ap (start_with settings.rule) c.is_each-each.ensures in
    completes_cut (on_end settings.drain) (told_of settings) (told_whole on_line no_line (start_of settings)) (g.S.Source.left c.args.input.now)
    (g.S.Source.left c.read_through.new.input) (g.K.Sink.given c.args.out.now) (g.K.Sink.given c.read_through.new.out) c.in-Err.stop
    (read_from on_line no_line (g.S.Source.left c.args.input.now) (g.S.Source.left c.read_through.new.input) (g.K.Sink.given c.args.out.now)
    (g.K.Sink.given c.read_through.new.out) c.in-Ok.start (start_of settings) (Err c.in-Err.stop) start c.in-Err.ensures.comes)
