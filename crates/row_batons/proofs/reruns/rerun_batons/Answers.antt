use Rattle.row_batons.proofs.Keyings.{keyed_numbers}
use Rattle.row_batons.proofs.reruns.rerun_batons.Goals as goal

pub rerun_by-requires-clause-numbers : goal.rerun_by-requires-clause-numbers
rerun_by-requires-clause-numbers g c κs within = keyed_numbers c.args.waiting.now c.in_ok-numbers.numbers.reads c.in_ok-numbers.numbers.writes
    c.in_ok-numbers.numbers.keys c.in_ok-numbers.ensures.reads c.in_ok-numbers.ensures.writes c.in_ok-numbers.ensures.keys
