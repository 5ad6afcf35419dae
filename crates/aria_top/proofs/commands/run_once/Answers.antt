use Rattle.run_commands.specs.Outs.{out_of, told_of}
use Rattle.aria_top.proofs.Stopped.{front}
use Rattle.aria_top.proofs.commands.run_once.Goals as goal

pub returns-clause-front : goal.returns-clause-front
returns-clause-front g c =
    front (told_of c.args.settings.now) (out_of c.args.settings.now) (g.S.Source.left c.args.input.now) (g.S.Source.left c.once.new.input)
    (g.K.Sink.given c.args.out.now) (g.K.Sink.given c.once.new.out) c.once.result c.once.ensures.completes
