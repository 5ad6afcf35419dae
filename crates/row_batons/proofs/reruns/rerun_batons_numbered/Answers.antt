use Rattle.row_batons.proofs.Keyings.{batch_numbers}
use Rattle.row_batons.proofs.reruns.rerun_batons_numbered.Goals as goal

pub rerun_by-requires-clause-numbers : goal.rerun_by-requires-clause-numbers
rerun_by-requires-clause-numbers g c κs within =
    batch_numbers c.args.numbered.now c.args.tids.now c.args.waiting.now c.requires.numbered c.in_ok-numbers.ensures.sheet c.requires.tids
    c.in_ok-numbers.numbers.reads c.in_ok-numbers.numbers.writes c.in_ok-numbers.numbers.keys c.in_ok-numbers.ensures.reads c.in_ok-numbers.ensures.writes
    c.in_ok-numbers.ensures.keys
