use Rattle.batch_rules.proofs.Numberings.{places_one_to_one}
use Rattle.batch_rules.proofs.laws.places_one_to_one.Goals as goal

pub returns : goal.returns
returns g c R o keys = places_one_to_one o keys
