use Rattle.audit_command.specs.Audits.{out_of, told_of}
use Rattle.aria_top.proofs.Stopped.{front}
use Rattle.aria_top.proofs.commands.run_audit.Goals as goal

pub returns-clause-front : goal.returns-clause-front
returns-clause-front g c =
    front told_of out_of (g.S.Source.left c.args.input.now) (g.S.Source.left c.audit.new.input) (g.K.Sink.given c.args.out.now)
    (g.K.Sink.given c.audit.new.out) c.audit.result c.audit.ensures.completes
