use Rattle.proc_sound.proofs.Runs.{has_place_is}
use Rattle.proc_sound.proofs.has_place_for_what_fits.Goals as goal

pub returns : goal.returns
returns c = has_place_is
