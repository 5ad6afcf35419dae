use Rattle.script_course.proofs.Ends.{completes_on, completes_cut}
use Rattle.script_course.proofs.laws.ends_of.Goals as goal

pub returns : goal.returns
returns g c = record { on = completes_on; cut = completes_cut }
