use Rattle.store_laws.proofs.Files as law
use Rattle.store_laws.proofs.laws.files_are_one_run.Goals as goal

pub returns : goal.returns
returns c = law.files_are_one_run
