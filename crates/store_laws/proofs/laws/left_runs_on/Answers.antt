use Rattle.store_laws.proofs.Files as law
use Rattle.store_laws.proofs.laws.left_runs_on.Goals as goal

pub returns : goal.returns
returns c = law.left_runs_on
