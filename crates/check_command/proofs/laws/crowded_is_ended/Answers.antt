use Rattle.check_command.proofs.Lines.{each_is_ended}
use Rattle.check_command.proofs.laws.crowded_is_ended.Goals as goal

pub returns : goal.returns
returns c = each_is_ended c.crowded_is_run.ensures
