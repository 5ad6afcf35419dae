use Rattle.tpcc_sound.proofs.Heading.{head-sound}
use Rattle.tpcc_sound.proofs.laws.heads_are_sound.Goals as goal

pub returns : goal.returns
returns c = head-sound
