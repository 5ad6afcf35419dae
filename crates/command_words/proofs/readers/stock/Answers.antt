use Rattle.std.proofs.Common.{rules}
use Rattle.command_words.proofs.readers.stock.Goals as goal

pub returns-in_err-number_in : goal.returns-in_err-number_in
returns-in_err-number_in c l is =
    let first = c.number_in.ensures l is in search rules

pub returns-in_err-number_in-2 : goal.returns-in_err-number_in-2
returns-in_err-number_in-2 c l is =
    let first = c.number_in.ensures l is in let second = c.number_in-2.ensures l is in search rules

pub returns : goal.returns
returns c l is =
    let first = c.number_in.ensures l is in let second = c.number_in-2.ensures l is in let third = c.number_in-3.ensures l is in search rules
