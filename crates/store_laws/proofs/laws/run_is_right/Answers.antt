use Rattle.store_laws.proofs.Back as law
use Rattle.store_laws.proofs.laws.run_is_right.Goals as goal

pub returns : goal.returns
returns c = law.run_is_right
