use Rattle.slot_images.proofs.Once.{reads_once}
use Rattle.slot_images.proofs.laws.reads_once.Goals as goal

pub returns : goal.returns
returns c = reads_once
