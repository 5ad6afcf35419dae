use Rattle.std.proofs.Common.{rules}
use Rattle.command_words.proofs.readers.mix.Goals as goal

pub returns-in_err-number_in : goal.returns-in_err-number_in
returns-in_err-number_in c l is =
    let first = c.amount.ensures l is in let second = c.stock.ensures l is in let third = c.number_in.ensures l is in search rules
