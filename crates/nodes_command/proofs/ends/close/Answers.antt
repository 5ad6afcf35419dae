use Rattle.std.proofs.Common.{◌≡◌, true, arith}
use Rattle.run_commands.proofs.Ending.{drained_by, drained_cut}
use Rattle.nodes_command.specs.Bases.{state_of}
use Rattle.nodes_command.proofs.ends.close.Goals as goal

pub returns-in-Ok-clause-finishes : goal.returns-in-Ok-clause-finishes
returns-in-Ok-clause-finishes g c =
    let on : c.args.drains ≡ true = grind (arith, c.if-not-drains.false) in
    drained_by c.args.drains c.args.catalog.now c.args.work.each c.args.line (state_of c.args.work.base) on (state_of c.in-Ok.base)
    (g.K.Sink.given c.args.out.now) (g.K.Sink.given c.drained.new.out)
    (g.K.Sink.given c.list-in-Ok.new.out) c.list-in-Ok.result c.in-Ok.ensures.serves c.list-in-Ok.ensures.read c.list-in-Ok.ensures.finishes

pub returns-clause-finishes : goal.returns-clause-finishes
returns-clause-finishes g c =
    let on : c.args.drains ≡ true = grind (arith, c.if-not-drains.false) in
    drained_cut c.args.drains c.args.catalog.now c.args.work.each c.args.line (state_of c.args.work.base) on (g.K.Sink.given c.args.out.now)
    (g.K.Sink.given c.drained.new.out) c.in-Err.stop c.in-Err.ensures.serves
