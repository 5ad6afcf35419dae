use Rattle.tpcc_sound.proofs.Working.{work-keeps}
use Rattle.tpcc_sound.proofs.laws.works_keep_sound.Goals as goal

pub returns : goal.returns
returns c = λ q work db taken consistent sound. work-keeps db consistent sound q work taken
