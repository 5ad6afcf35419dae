use Rattle.std.proofs.Common.{rules}
use Rattle.command_words.proofs.readers.amount.Goals as goal

pub returns-in_err-batches : goal.returns-in_err-batches
returns-in_err-batches c l is =
    let first = c.number_in.ensures l is in let second = c.number_in-2.ensures l is in search rules
