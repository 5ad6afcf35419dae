use Rattle.aria_store.proofs.Somes.{reopens_some}
use Rattle.aria_store.proofs.laws.reopens_some.Goals as goal

pub returns : goal.returns
returns c = reopens_some
