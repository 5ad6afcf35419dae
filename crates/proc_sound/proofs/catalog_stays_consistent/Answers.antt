use Rattle.proc_sound.proofs.Runs.{catalog_stays_consistent_is}
use Rattle.proc_sound.proofs.catalog_stays_consistent.Goals as goal

pub returns : goal.returns
returns c = catalog_stays_consistent_is
