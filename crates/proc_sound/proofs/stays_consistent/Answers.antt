use Rattle.proc_sound.proofs.Runs.{stays_consistent_is}
use Rattle.proc_sound.proofs.stays_consistent.Goals as goal

pub returns : goal.returns
returns c = stays_consistent_is
