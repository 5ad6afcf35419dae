use Rattle.store_commands.proofs.Whole.{inits_cut, inits_on, is_made, ungiven_on}
use Rattle.store_commands.proofs.inits.init.Goals as goal

pub returns-in-Ok-clause-inits : goal.returns-in-Ok-clause-inits
returns-in-Ok-clause-inits g c =
    inits_on c.args.settings.now (g.D.Disk.history c.args.disk.now) (g.S.Source.left c.args.input.now) (g.S.Source.left c.read_rows.new.input)
    (g.K.Sink.given c.args.out.now) (g.D.Disk.history c.close.new.disk) (g.K.Sink.given c.read_rows.new.out) (g.K.Sink.given c.close.new.out)
    c.in-Ok.last c.close.result c.in-Ok.ensures.comes c.close.ensures.read c.close.ensures.ends

pub returns-in-Ok-clause-made : goal.returns-in-Ok-clause-made
returns-in-Ok-clause-made g c done =
    is_made c.args.settings.now (g.D.Disk.history c.args.disk.now) (g.S.Source.left c.args.input.now) (g.S.Source.left c.read_rows.new.input)
    (g.K.Sink.given c.args.out.now) (g.D.Disk.history c.close.new.disk) (g.K.Sink.given c.read_rows.new.out) c.in-Ok.last c.in-Ok.ensures.comes
    (c.close.ensures.made done)

pub returns-in-Ok-clause-ungiven : goal.returns-in-Ok-clause-ungiven
returns-in-Ok-clause-ungiven g c =
    ungiven_on (g.S.Source.left c.args.input.now) (g.K.Sink.given c.args.out.now) (g.K.Sink.given c.read_rows.new.out) (g.K.Sink.given c.close.new.out)
    c.in-Ok.last c.close.result c.in-Ok.ensures.comes.0 c.close.ensures.ungiven

pub returns-in-Err-clause-inits : goal.returns-in-Err-clause-inits
returns-in-Err-clause-inits g c =
    inits_cut c.args.settings.now (g.D.Disk.history c.args.disk.now) (g.S.Source.left c.args.input.now) (g.S.Source.left c.read_rows.new.input)
    (g.K.Sink.given c.args.out.now) (g.K.Sink.given c.read_rows.new.out) c.in-Err.stop c.in-Err.ensures.comes
