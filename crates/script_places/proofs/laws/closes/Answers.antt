use Rattle.script_places.proofs.Allowed as law
use Rattle.script_places.proofs.laws.closes.Goals as goal

pub returns : goal.returns
returns c = law.closes
