use Rattle.resume_laws.proofs.Stopped as law
use Rattle.resume_laws.proofs.laws.every_stop_resumes.Goals as goal

pub returns : goal.returns
returns c = law.every_stop_resumes
