use Rattle.reorder.proofs.Places.{ordered_names}
use Rattle.reorder.proofs.laws.ordered_names.Goals as goal

pub returns : goal.returns
returns g c = ordered_names
