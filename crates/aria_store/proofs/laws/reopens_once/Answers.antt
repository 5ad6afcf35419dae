use Rattle.aria_store.proofs.Founds.{reopens_once}
use Rattle.aria_store.proofs.laws.reopens_once.Goals as goal

pub returns : goal.returns
returns c = reopens_once
