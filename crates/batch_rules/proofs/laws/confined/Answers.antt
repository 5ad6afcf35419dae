use Rattle.batch_rules.proofs.Within.{confined}
use Rattle.batch_rules.proofs.laws.confined.Goals as goal

pub returns : goal.returns
returns g c R o anti is_done t declared db = confined o anti is_done declared t db
