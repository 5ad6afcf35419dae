use Rattle.std.proofs.Common.{rules}
use Rattle.command_words.proofs.readers.init.Goals as goal

pub returns-in_err-number_in : goal.returns-in_err-number_in
returns-in_err-number_in c l is =
    let first = c.choice_in.ensures l is in let second = c.number_in.ensures l is in search rules

pub returns : goal.returns
returns c l is =
    let first = c.choice_in.ensures l is in let second = c.number_in.ensures l is in let third = c.flag_in.ensures l is in search rules
