use Rattle.script_places.proofs.Allowed as law
use Rattle.script_places.proofs.laws.follows.Goals as goal

pub returns : goal.returns
returns c = law.follows
