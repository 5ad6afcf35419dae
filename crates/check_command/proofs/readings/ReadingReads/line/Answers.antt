use Rattle.check_command.specs.Checks.{on_line}
use Rattle.check_command.proofs.readings.ReadingReads.line.Goals as goal

pub returns-in-Err-clause-serves : goal.returns-in-Err-clause-serves
returns-in-Err-clause-serves g c = c.refuse_line.ensures.serves (on_line c.args.self c.args.line.now) c.in-Err.ensures
