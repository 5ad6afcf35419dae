use Rattle.script_rows.specs.Drafts.{no_line, on_line, read_of, start, told_of}
use Rattle.script_rows.proofs.Inputs.{nothing_read, read_from}
use Rattle.script_rows.proofs.readings.read_rows.Goals as goal

pub returns-in-Ok-clause-comes : goal.returns-in-Ok-clause-comes
returns-in-Ok-clause-comes g c =
    read_from on_line no_line (g.S.Source.left c.args.input.now) (g.S.Source.left c.read_through.new.input) (g.K.Sink.given c.args.out.now)
    (g.K.Sink.given c.read_through.new.out) c.in-Ok.start (start c.args.mode) c.read_through.result c.in-Ok.ensures c.read_through.ensures.comes

pub returns-in-Err-clause-comes : goal.returns-in-Err-clause-comes
returns-in-Err-clause-comes g c =
    nothing_read (told_of c.args.mode) (read_of c.args.mode) (g.S.Source.left c.args.input.now) (g.K.Sink.given c.args.out.now)
