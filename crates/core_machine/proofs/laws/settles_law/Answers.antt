use Rattle.batch_rules.specs.Batches.{on_start}
use Rattle.core_machine.proofs.Courses.{settles}
use Rattle.core_machine.proofs.laws.settles_law.Goals as goal

pub returns : goal.returns
returns g c R is_done tree rule start list = settles R (on_start is_done tree start) rule list
