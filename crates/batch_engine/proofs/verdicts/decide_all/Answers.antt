use Rattle.batch_engine.proofs.Deciding.{verdicts-given}
use Rattle.batch_engine.proofs.verdicts.decide_all.Goals as goal

pub returns : goal.returns
returns g c = verdicts-given c.args.rule c.args.numbered.now (λ v. v.items) c.gather.result c.gather.ensures
