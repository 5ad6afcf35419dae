use Rattle.aria_store.proofs.Coursed.{found_again}
use Rattle.aria_store.proofs.laws.found_again.Goals as goal

pub returns : goal.returns
returns c = found_again
