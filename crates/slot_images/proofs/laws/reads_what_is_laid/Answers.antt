use Rattle.slot_images.proofs.Once.{laid_reads}
use Rattle.slot_images.proofs.laws.reads_what_is_laid.Goals as goal

pub returns : goal.returns
returns c = laid_reads
