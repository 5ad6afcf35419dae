use Rattle.batch_rules.proofs.Meets.{meeting}
use Rattle.batch_rules.proofs.laws.meeting.Goals as goal

pub returns : goal.returns
returns g c R o anti = meeting o anti
