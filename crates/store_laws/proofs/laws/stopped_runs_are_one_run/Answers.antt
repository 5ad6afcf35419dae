use Rattle.store_laws.proofs.Files as law
use Rattle.store_laws.proofs.laws.stopped_runs_are_one_run.Goals as goal

pub returns : goal.returns
returns c = law.stopped_runs_are_one_run c.every_stop_resumes.ensures
