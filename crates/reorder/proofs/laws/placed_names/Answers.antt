use Rattle.reorder.proofs.Places.{placed_names}
use Rattle.reorder.proofs.laws.placed_names.Goals as goal

pub returns : goal.returns
returns g c = placed_names
