use Rattle.proc_sound.proofs.Runs.{never_stuck_is}
use Rattle.proc_sound.proofs.never_stuck.Goals as goal

pub returns : goal.returns
returns c = never_stuck_is
