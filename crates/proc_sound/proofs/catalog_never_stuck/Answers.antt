use Rattle.proc_sound.proofs.Runs.{catalog_never_stuck_is}
use Rattle.proc_sound.proofs.catalog_never_stuck.Goals as goal

pub returns : goal.returns
returns c = catalog_never_stuck_is
