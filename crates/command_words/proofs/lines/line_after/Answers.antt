use Rattle.std.proofs.Common.{Global}
use Rattle.command_words.specs.Rows.{cmd_of}
use Rattle.command_words.proofs.TableLemmas.{some_options, no_options}
use Rattle.command_words.proofs.lines.line_after.Goals as goal

pub returns-in-Some : goal.returns-in-Some
returns-in-Some c = some_options (cmd_of c.args.command) _ c.in-Some.given (rw c.in-Some.is at c.in_ok-given.ensures)

pub returns-in-None : goal.returns-in-None
returns-in-None c = no_options Global (cmd_of c.args.command) _ (rw c.in-None.is at c.in_ok-given.ensures)
