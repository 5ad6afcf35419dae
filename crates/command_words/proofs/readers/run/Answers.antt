use Rattle.std.proofs.Common.{rules}
use Rattle.command_words.proofs.readers.run.Goals as goal

pub returns-in_err-number_in : goal.returns-in_err-number_in
returns-in_err-number_in c l is =
    let first = c.number_in.ensures l is in search rules
