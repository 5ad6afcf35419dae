use Rattle.script_places.specs.Places.{asked}
use Rattle.worked_scripts.specs.Echoes.{echo_line}
use Rattle.worked_scripts.proofs.Echoed.{refused_moves}
use Rattle.worked_scripts.proofs.echoes.EchoReads.line.Goals as goal

pub returns-in-Err-clause-serves : goal.returns-in-Err-clause-serves
returns-in-Err-clause-serves g c =
    c.refuse_line.ensures.serves (echo_line c.args.self c.args.line.now)
    (refused_moves c.args.self (asked c.args.self.place c.args.self.counts c.args.line.now) c.in-Err.refused c.in-Err.ensures)
