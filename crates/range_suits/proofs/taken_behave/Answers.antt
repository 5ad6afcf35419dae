use Rattle.range_suits.proofs.Works.{behaves}
use Rattle.range_suits.proofs.taken_behave.Goals as goal

pub returns : goal.returns
returns c plan taken act w db = behaves plan taken act w db (λ request. c.touches_few.ensures plan request db)
