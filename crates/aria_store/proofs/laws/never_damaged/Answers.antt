use Rattle.aria_store.proofs.Coursed.{never_damaged}
use Rattle.aria_store.proofs.laws.never_damaged.Goals as goal

pub returns : goal.returns
returns c = never_damaged
