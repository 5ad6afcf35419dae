use Rattle.check_command.specs.Outs.{out_of, told_of}
use Rattle.aria_top.proofs.Stopped.{front}
use Rattle.aria_top.proofs.commands.run_check.Goals as goal

pub returns-clause-front : goal.returns-clause-front
returns-clause-front g c =
    front told_of out_of (g.S.Source.left c.args.input.now) (g.S.Source.left c.check_report.new.input) (g.K.Sink.given c.args.out.now)
    (g.K.Sink.given c.check_report.new.out) c.check_report.result c.check_report.ensures.completes
