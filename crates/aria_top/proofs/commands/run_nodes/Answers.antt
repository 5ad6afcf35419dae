use Rattle.nodes_command.specs.Outs.{out_of, told_of}
use Rattle.aria_top.proofs.Stopped.{front}
use Rattle.aria_top.proofs.commands.run_nodes.Goals as goal

pub returns-clause-front : goal.returns-clause-front
returns-clause-front g c =
    front (told_of c.args.settings.now) (out_of c.args.settings.now) (g.S.Source.left c.args.input.now) (g.S.Source.left c.nodes.new.input)
    (g.K.Sink.given c.args.out.now) (g.K.Sink.given c.nodes.new.out) c.nodes.result c.nodes.ensures.completes
