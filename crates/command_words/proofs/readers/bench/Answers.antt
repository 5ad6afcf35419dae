use Rattle.std.proofs.Common.{rules}
use Rattle.command_words.proofs.readers.bench.Goals as goal

pub returns : goal.returns
returns c l is =
    let d = c.workload.ensures l is in let w = c.number_in.ensures l is in let r = c.number_in-2.ensures l is in let u = c.choice_in.ensures l is in
    let f = c.number_in-3.ensures l is in let drain = c.flag_in.ensures l is in let batons = c.flag_in-2.ensures l is in search rules
