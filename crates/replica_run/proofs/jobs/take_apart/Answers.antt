use Rattle.std.proofs.Common.{◌≡◌}
use Rattle.replica_run.proofs.Pairs.{last_of_all}
use Rattle.replica_run.proofs.jobs.take_apart.Goals as goal

pub returns-clause-answer : goal.returns-clause-answer
returns-clause-answer c = λ one all. last_of_all (λ ran. ran.answer ≡ one) c.args.rans.items c.split_last-others.result.0.items c.split_last-others.result.1
    c.split_last-others.ensures all
