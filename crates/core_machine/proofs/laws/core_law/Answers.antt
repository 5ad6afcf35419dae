use Rattle.core_machine.proofs.Keeps.{core_law}
use Rattle.core_machine.proofs.laws.core_law.Goals as goal

pub returns : goal.returns
returns g c R o anti is_done tree rule start list tag first es = core_law o anti is_done tree rule start list tag first es
