use Rattle.proc_sound.proofs.Few.{few_touched}
use Rattle.proc_sound.proofs.touches_few.Goals as goal

pub returns : goal.returns
returns c = few_touched
