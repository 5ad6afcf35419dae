use Rattle.script_course.proofs.Ends.{completes_on, completes_cut}
use Rattle.script_places.specs.declared.places.Mode.TheVariants as mode
use Rattle.script_rows.specs.Drafts.{read_of}
use Rattle.audit_command.specs.Audits.{on_end, told_of}
use Rattle.audit_command.proofs.commands.audit.Goals as goal

pub returns-in-Ok-clause-completes : goal.returns-in-Ok-clause-completes
returns-in-Ok-clause-completes g c =
    completes_on on_end told_of (read_of mode.Audit) (g.S.Source.left c.args.input.now) (g.S.Source.left c.read_rows.new.input) (g.K.Sink.given c.args.out.now)
    (g.K.Sink.given c.read_rows.new.out) (g.K.Sink.given c.end_of.new.out) c.in-Ok.last c.end_of.result c.in-Ok.ensures.comes c.end_of.ensures.read
    c.end_of.ensures.finishes

pub returns-in-Err-clause-completes : goal.returns-in-Err-clause-completes
returns-in-Err-clause-completes g c =
    completes_cut on_end told_of (read_of mode.Audit) (g.S.Source.left c.args.input.now) (g.S.Source.left c.read_rows.new.input)
    (g.K.Sink.given c.args.out.now) (g.K.Sink.given c.read_rows.new.out) c.in-Err.stop c.in-Err.ensures.comes
