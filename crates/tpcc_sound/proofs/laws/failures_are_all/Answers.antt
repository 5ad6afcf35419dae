use Rattle.tpcc_sound.proofs.Exact.{sound-found, found-sound}
use Rattle.tpcc_sound.proofs.laws.failures_are_all.Goals as goal

pub returns : goal.returns
returns c = λ rows. (sound-found rows, found-sound rows)
