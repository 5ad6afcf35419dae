use Rattle.store_laws.proofs.Together as law
use Rattle.store_laws.proofs.laws.script_is_one_run.Goals as goal

pub returns : goal.returns
returns c = law.script_is_one_run
